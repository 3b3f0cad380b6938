pub mod Listed
pub mod Accessed
pub mod Acquired
pub mod Stamps
pub mod Indexes
pub mod HeldSets
pub mod Stamped
