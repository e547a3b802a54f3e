pub mod GrowingLemmas
pub mod WentLemmas
pub mod RepliesLemmas
pub mod TurnLemmas
