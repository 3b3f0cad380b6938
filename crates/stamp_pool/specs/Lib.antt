pub mod Rows
pub mod Pools
