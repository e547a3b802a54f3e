-- How a run is cut, where its entries stand, and what it keeps in number.
pub mod Cuts
pub mod Places
pub mod Sizes
pub mod Comes
pub mod Counts
pub mod Askers
