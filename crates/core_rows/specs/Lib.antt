pub mod Rows
pub mod Noise
pub mod Share
