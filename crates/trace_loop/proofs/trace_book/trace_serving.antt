pub mod Judged
pub mod Steps
pub mod Runs
pub mod Brought
