pub mod Chaining
pub mod Bordering
pub mod Collecting
pub mod Slotting
pub mod Scanning
pub mod Deadly
pub mod Joining
