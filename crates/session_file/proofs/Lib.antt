pub mod StripLemmas
pub mod LineLemmas
pub mod WrongLemmas
pub mod ReadingLemmas
pub mod SessionLemmas
pub mod WriteLemmas
pub mod PartLemmas
pub mod LoadLemmas
