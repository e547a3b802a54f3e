pub mod MixLemmas
pub mod SpanLemmas
pub mod CalmLemmas
pub mod FramesLemmas
pub mod BeginLemmas
pub mod LooperLemmas
