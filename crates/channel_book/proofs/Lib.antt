pub mod Histories
pub mod Stepping
