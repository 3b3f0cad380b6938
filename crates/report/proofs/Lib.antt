pub mod MoreLines
pub mod MoreEnds
