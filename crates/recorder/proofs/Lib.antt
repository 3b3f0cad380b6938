pub mod Marks
pub mod Grants
pub mod Gathered
