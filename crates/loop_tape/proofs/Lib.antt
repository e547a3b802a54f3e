pub mod ChunkLemmas
pub mod PoolLemmas
pub mod SlotLemmas
pub mod CutLemmas
pub mod SpanLemmas
pub mod PutLemmas
