pub mod Tempo
pub mod Laws
