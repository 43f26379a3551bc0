pub mod Waiting
pub mod Coming
pub mod Missing
pub mod Bounds
pub mod Calls
pub mod Sharing
