pub mod Beginnings
pub mod Queues
pub mod Holding
pub mod EngineParts
pub mod Stretches
pub mod Steps
