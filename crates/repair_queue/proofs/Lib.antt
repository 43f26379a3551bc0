pub mod Pending
pub mod Indexed
pub mod Marked
pub mod Blocks
pub mod Pieces
