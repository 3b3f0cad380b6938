pub mod Predictions
pub mod Searches
pub mod Borders
pub mod Parts
pub mod Jobs
