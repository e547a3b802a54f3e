pub mod TurnLemmas
pub mod FillLemmas
pub mod DidLemmas
pub mod StateLemmas
