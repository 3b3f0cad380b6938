pub mod Reports
pub mod FindingLines
pub mod ReachedLines
pub mod EndLines
