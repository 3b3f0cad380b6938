pub mod ModeNames
pub mod Words
pub mod Parsed
