pub mod GoLemmas
pub mod StandLemmas
