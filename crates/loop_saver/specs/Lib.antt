pub mod SavedFiles
pub mod Savers
pub mod Accepting
pub mod Coming
pub mod Keeping
