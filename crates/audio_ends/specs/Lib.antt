pub mod Ends
pub mod Turns
pub mod Fills
pub mod Did
pub mod States
pub mod Turned
