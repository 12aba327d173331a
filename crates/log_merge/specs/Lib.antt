pub mod Sums
pub mod Numbering
pub mod Part
pub mod Writing
pub mod Log
