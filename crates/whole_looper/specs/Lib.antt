pub mod Loopers
pub mod Spans
