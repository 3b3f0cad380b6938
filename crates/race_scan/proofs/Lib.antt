pub mod Pairs
pub mod Keeping
pub mod Outside
pub mod Pointers
pub mod Grouping
pub mod Adding
pub mod Enclosing
pub mod GoingOn
