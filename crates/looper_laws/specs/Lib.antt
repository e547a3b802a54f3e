pub mod Selecting
pub mod OtherLayers
pub mod Undoing
pub mod Spans
