pub mod FormLemmas
pub mod BindingLemmas
pub mod OneLemmas
pub mod WrongLemmas
pub mod TextLemmas
pub mod ReaderLemmas
pub mod WriteLemmas
pub mod SweepLemmas
