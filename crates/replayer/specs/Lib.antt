pub mod Reorders
pub mod Replays
pub mod Replayed
