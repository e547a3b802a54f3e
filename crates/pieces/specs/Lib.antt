pub mod Pieces
pub mod Splitting
pub mod OneMore
pub mod Inside
