pub mod Pieces
pub mod Written
pub mod Numbers
pub mod Items
