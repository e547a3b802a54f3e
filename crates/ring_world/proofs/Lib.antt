pub mod RingLemmas
pub mod KeepLemmas
pub mod RunLemmas
pub mod LeaveLemmas
pub mod CountLemmas
pub mod SaveLemmas
pub mod SumLemmas
pub mod WorldLemmas
