pub mod Passes
pub mod Queues
pub mod Lists
