pub mod Opening
pub mod Turning
pub mod Writing
