pub mod Holding
pub mod Choosing
pub mod Turning
pub mod Naming
pub mod Lines
pub mod Readable
