pub mod Brief
pub mod Heard
pub mod Short
pub mod Steps
