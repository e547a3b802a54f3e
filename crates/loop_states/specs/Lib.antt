pub mod Moves
pub mod Deciding
