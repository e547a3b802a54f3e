-- Which layers stay as they are.
pub mod Stacks
pub mod Steps
pub mod Loops
pub mod Frames
pub mod Tracks
pub mod Refusals
pub mod Unwritten
