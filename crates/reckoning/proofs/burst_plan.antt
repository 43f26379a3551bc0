pub mod FivePackets
pub mod JoinTimes
pub mod Running
