pub mod Asking
pub mod Audio
pub mod Osc
pub mod Midi
pub mod Session
pub mod Whole
