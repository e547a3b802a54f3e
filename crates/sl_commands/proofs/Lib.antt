pub mod TableLemmas
pub mod SettingsLemmas
pub mod EntriesLemmas
pub mod BlockLemmas
