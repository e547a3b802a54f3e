pub mod ClipLemmas
pub mod SpanLemmas
pub mod PlayLemmas
pub mod TakeLemmas
pub mod TurnLemmas
pub mod EndLemmas
pub mod QuotaLemmas
pub mod JournalLemmas
