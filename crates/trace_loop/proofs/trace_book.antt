pub mod Served
pub mod Links
pub mod Moments
pub mod Repairs
pub mod Bytes
pub mod Lawful
