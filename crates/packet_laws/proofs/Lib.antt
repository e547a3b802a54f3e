pub mod GoodLemmas
pub mod FieldLemmas
pub mod MessageLemmas
pub mod ElementLemmas
pub mod PartLemmas
