pub mod Pieces
pub mod Turning
pub mod Opening
pub mod Reading
pub mod Followed
pub mod Ending
