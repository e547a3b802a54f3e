pub mod SendingLemmas
pub mod ToldLemmas
pub mod PongLemmas
pub mod AddressLemmas
