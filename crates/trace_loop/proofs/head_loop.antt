pub mod Channels
pub mod Claims
pub mod AtPorts
pub mod Opening
pub mod Cutting
pub mod HeadLines
pub mod Leaving
