mod Forgetting
pub mod Idling
mod Orders
mod Takes
mod Repairs
pub mod Runs
mod Ticks
