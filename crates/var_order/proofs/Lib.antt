pub mod Best
pub mod Heaps
pub mod Members
pub mod Picks
