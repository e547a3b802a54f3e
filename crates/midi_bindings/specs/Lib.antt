pub mod Lines
pub mod Lookups
pub mod Texts
pub mod Played
