pub mod TextLemmas
pub mod NameLemmas
pub mod UrlLemmas
pub mod PathLemmas
pub mod RequestLemmas
