pub mod ConsoleLemmas
pub mod RenderLemmas
pub mod EndingLemmas
