pub mod Preparing
pub mod Sessions
pub mod Starting
pub mod Statuses
pub mod Closing
pub mod Telling
pub mod Ending
