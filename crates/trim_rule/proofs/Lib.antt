pub mod InOrder
pub mod Ranking
pub mod Chosen
pub mod Dropped
