mod ReadAgain
pub mod ReadPackets
