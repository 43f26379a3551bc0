pub mod Changing
pub mod Doing
pub mod Kept
pub mod Sending
pub mod Stepping
pub mod Summing
pub mod Tallied
