pub mod LineFeeds
pub mod Windows
pub mod NextLines
pub mod Passing
