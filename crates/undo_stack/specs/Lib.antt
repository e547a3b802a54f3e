pub mod Layered
pub mod Ranges
