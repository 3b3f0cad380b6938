pub mod Causes
pub mod Moves
pub mod Memory
pub mod Digits
