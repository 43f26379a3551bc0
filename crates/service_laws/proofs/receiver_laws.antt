pub mod Arriving
pub mod Standing
pub mod Prefixes
pub mod Having
pub mod Delivered
pub mod Ending
