pub mod Classes
pub mod Listing
pub mod Graphs
pub mod Ranks
