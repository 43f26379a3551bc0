mod Flags
mod LastTold
pub mod Low
mod Orders
mod Packets
pub mod Rising
mod RtpBytes
mod Starts
mod Became
mod Framing
mod Naming
mod Answered
