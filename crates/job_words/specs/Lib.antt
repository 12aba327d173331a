pub mod Numbers
pub mod Faults
pub mod Commands
pub mod Job
