pub mod UnansweredLemmas
pub mod StepLemmas
pub mod ClearLemmas
pub mod ReachedLemmas
pub mod IdleLemmas
pub mod MoreLoopsLemmas
pub mod DueLemmas
pub mod SentLemmas
