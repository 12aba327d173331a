pub mod Passes
pub mod Boards
pub mod Looks
pub mod Periods
