pub mod FirstLemmas
pub mod CauseLemmas
pub mod AlwaysLemmas
pub mod RunLemmas
pub mod StatusLemmas
