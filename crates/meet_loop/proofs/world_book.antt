pub mod Channels
pub mod Fields
pub mod Worlds
pub mod Posts
pub mod Promising
