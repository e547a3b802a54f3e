pub mod FormLemmas
pub mod CommandLemmas
pub mod EntryLemmas
pub mod SoFarLemmas
pub mod WrongLemmas
pub mod JournalLemmas
pub mod ReaderLemmas
pub mod WriteLemmas
