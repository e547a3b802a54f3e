pub mod Named
pub mod OneFile
pub mod RunLimits
pub mod AllFiles
pub mod Readings
