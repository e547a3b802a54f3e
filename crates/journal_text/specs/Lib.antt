pub mod JournalLines
pub mod Journals
pub mod SoFars
