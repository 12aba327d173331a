pub mod Counts
pub mod Holding
pub mod Steps
pub mod Looks
pub mod Places
pub mod Jumps
pub mod Standings
pub mod Tellings
