pub mod Fields
pub mod Framing
pub mod Law
pub mod Meaning
pub mod Refusal
pub mod Rereading
pub mod Told
pub mod Writing
