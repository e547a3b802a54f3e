-- What undo and redo give back.
pub mod Openings
pub mod Layers
