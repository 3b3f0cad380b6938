pub mod Reported
pub mod Witnesses
pub mod Replays
pub mod Runs
pub mod Benches
