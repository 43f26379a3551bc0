pub mod Sizing
pub mod Pulling
pub mod Running
