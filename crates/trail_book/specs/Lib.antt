pub mod TrailState
pub mod Arrays
pub mod Laws
