-- Spans of frames, and the frames that they are.
pub mod Controls
pub mod Waiting
pub mod Sums
pub mod Quiet
pub mod Time
pub mod Calm
