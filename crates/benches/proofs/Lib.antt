pub mod OwnLemmas
pub mod StageLemmas
