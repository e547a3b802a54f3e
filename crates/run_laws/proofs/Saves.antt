-- What a run saves, and what holds the lists that are saved.
pub mod Entries
pub mod Numbers
pub mod Loops
pub mod Pins
pub mod Releases
pub mod Holds
pub mod Owners
pub mod Apart
pub mod Made
pub mod Blocks
pub mod Parts
pub mod Prefixes
pub mod BlockCounts
pub mod Ends
