pub mod Taking
pub mod TraceTaking
pub mod ReaderAnswers
pub mod TraceBehind
pub mod Scripting
pub mod InputParts
