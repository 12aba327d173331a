pub mod Places
pub mod Marks
pub mod Reasons
pub mod Walked
pub mod Room
