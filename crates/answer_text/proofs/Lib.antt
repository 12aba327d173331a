pub mod ReadBack
pub mod LineCounts
pub mod Passed
pub mod LitWords
pub mod Parts
