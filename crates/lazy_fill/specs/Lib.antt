pub mod Addresses
pub mod Marks
pub mod Streaks
pub mod Fills
pub mod Inside
