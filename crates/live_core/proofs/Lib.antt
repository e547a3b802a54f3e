pub mod PreparedLemmas
pub mod RanLemmas
pub mod TellingLemmas
pub mod EndLemmas
