pub mod BoundLemmas
pub mod LiveLemmas
