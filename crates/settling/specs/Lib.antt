pub mod Settled
pub mod Standing
pub mod Steps
