pub mod Reduction
pub mod Laws
