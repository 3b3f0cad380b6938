pub mod Sums
pub mod Places
pub mod Takes
pub mod Gives
pub mod Cuts
pub mod Ends
pub mod Seats
pub mod Rests
