pub mod Arithmetic
pub mod Sounds
pub mod Names
pub mod Limits
pub mod Counting
