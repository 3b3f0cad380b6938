pub mod Alike
pub mod Noting
pub mod Keys
pub mod Whole
pub mod Reading
