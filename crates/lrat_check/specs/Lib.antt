pub mod Faults
pub mod Status
pub mod Table
pub mod Clauses
pub mod Packing
pub mod Checking
pub mod Laws
