pub mod Lengths
pub mod Wholes
pub mod Stocking
pub mod Draining
pub mod Passing
pub mod Placing
pub mod Starting
pub mod Stepping
pub mod Shown
pub mod Booked
mod Settling
