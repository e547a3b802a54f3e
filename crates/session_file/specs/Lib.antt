pub mod SessionLines
pub mod Sessions
pub mod Readings
pub mod Parts
pub mod Loading
pub mod Outcomes
