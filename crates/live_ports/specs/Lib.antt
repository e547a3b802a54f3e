pub mod Sources
pub mod Links
pub mod Calls
pub mod MemoryEnds
