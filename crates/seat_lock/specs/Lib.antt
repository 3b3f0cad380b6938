pub mod Tallies
pub mod Views
pub mod Rule
pub mod Steps
pub mod Rested
pub mod Shown
