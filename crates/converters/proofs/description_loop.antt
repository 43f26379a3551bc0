pub mod NextLines
pub mod Heads
pub mod Rests
pub mod Outcomes
pub mod ReadHeads
pub mod Words
pub mod Spelled
pub mod Runs
