pub mod Clipping
pub mod RunTexts
pub mod Runs
pub mod Performing
pub mod Quotas
pub mod Playing
