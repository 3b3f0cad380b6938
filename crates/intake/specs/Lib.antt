pub mod Lengths
pub mod TraceTexts
pub mod Inputs
pub mod Faults
pub mod Reads
pub mod Taking
