pub mod Below
pub mod Examples
pub mod Formula
pub mod Grid
pub mod Hole
pub mod Kinds
pub mod Rand
pub mod Laws
