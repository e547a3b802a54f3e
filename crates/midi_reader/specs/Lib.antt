pub mod Bytes
pub mod Events
pub mod Feeding
