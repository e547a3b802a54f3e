pub mod AcceptLemmas
pub mod ComeLemmas
pub mod DueLemmas
pub mod FeedLemmas
pub mod PlaceLemmas
pub mod KeepLemmas
pub mod WroteLemmas
