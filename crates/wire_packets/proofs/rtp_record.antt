pub mod Reading
pub mod Stripping
pub mod Writing
