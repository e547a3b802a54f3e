pub mod ReadLemmas
pub mod FileLemmas
pub mod PartLemmas
pub mod RunLemmas
