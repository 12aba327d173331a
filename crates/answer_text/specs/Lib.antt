pub mod Trace
pub mod Answer
pub mod Writing
pub mod Gathering
pub mod Laws
pub mod Summary
