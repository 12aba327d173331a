pub mod Gathered
pub mod Rising
pub mod Chunks
pub mod Lines
pub mod Placed
pub mod FollowOn
pub mod Staying
