pub mod RuleLemmas
pub mod BlockLemmas
