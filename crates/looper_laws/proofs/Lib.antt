pub mod Kept
pub mod Others
pub mod Undo
pub mod Room
pub mod InSpans
