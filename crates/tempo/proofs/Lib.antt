pub mod Halves
pub mod Restarts
