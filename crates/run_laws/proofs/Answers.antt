-- What the replies of a run answer.
pub mod Pending
pub mod Entries
pub mod Runs
pub mod Gets
pub mod Once
pub mod Exact
