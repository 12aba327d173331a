pub mod Apart
pub mod HighBits
pub mod InRange
