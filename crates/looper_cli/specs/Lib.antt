pub mod Named
pub mod Console
pub mod Endings
pub mod Top
