pub mod Boards
pub mod BoardLists
pub mod Called
pub mod Passes
