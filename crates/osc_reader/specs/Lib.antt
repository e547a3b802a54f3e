pub mod Strings
pub mod Grammar
pub mod Places
pub mod Reading
pub mod Written
pub mod Adding
pub mod Putting
