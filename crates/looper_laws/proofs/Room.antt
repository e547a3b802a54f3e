-- What room loops leave one another.
pub mod Sharing
