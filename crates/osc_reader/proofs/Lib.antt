pub mod ReadingLemmas
pub mod FieldLemmas
pub mod BundleLemmas
pub mod MessageLemmas
pub mod PacketLemmas
pub mod WritingLemmas
pub mod WrittenLemmas
pub mod FaultLemmas
