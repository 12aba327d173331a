pub mod Acts
pub mod Resting
