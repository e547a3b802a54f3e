pub mod Engines
pub mod InStep
pub mod Answering
pub mod MoreLoops
