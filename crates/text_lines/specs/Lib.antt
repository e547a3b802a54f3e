pub mod Numerals
pub mod Lines
pub mod FirstFaults
pub mod Taking
pub mod Shapes
pub mod Targets
pub mod Presses
