pub mod Walks
pub mod Spans
pub mod Arenas
pub mod Moves
pub mod Lives
pub mod Ends
