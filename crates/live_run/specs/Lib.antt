pub mod Statuses
pub mod Writing
pub mod Closing
pub mod Causes
pub mod Playing
pub mod Running
pub mod Steps
