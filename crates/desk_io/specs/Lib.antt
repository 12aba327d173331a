pub mod Told
pub mod Inputs
pub mod Outputs
pub mod Memory
pub mod Shown
pub mod Sure
pub mod Real
