pub mod Uses
pub mod Tallies
pub mod Rising
pub mod Arena
pub mod Slots
pub mod Links
pub mod Pooled
pub mod Spans
