pub mod Pools
pub mod Tapes
pub mod PoolInside
