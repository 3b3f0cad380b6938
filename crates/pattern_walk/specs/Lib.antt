pub mod Cycles
pub mod Linked
pub mod Orders
pub mod Nearness
pub mod Walks
pub mod Listed
pub mod Instances
