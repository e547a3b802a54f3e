pub mod WordsLemmas
pub mod WordListLemmas
