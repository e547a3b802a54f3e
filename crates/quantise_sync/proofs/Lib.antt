pub mod MultipleLemmas
pub mod FaceLemmas
pub mod BoundaryLemmas
pub mod PlacedLemmas
