pub mod Blocks
pub mod Digits
pub mod Lanes
pub mod Values
pub mod Extremes
pub mod Reading
pub mod Written
