pub mod TakeLemmas
pub mod FeedLemmas
pub mod SettleLemmas
