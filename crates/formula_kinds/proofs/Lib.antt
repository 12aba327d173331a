pub mod BelowLists
pub mod Sizes
pub mod Within
pub mod Truths
pub mod Pigeons
pub mod Cells
pub mod NoRoom
