pub mod PlayLemmas
pub mod WholeLemmas
