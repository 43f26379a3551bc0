pub mod GoingOut
pub mod Telling
pub mod Steps
pub mod Causes
pub mod Between
pub mod Rooms
pub mod TurnByTurn
pub mod Closing
