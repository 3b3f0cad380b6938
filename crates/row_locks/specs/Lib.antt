pub mod Tallies
pub mod Grants
