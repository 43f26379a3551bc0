pub mod Pairs
pub mod Formats
pub mod Packets
pub mod Service
pub mod Receiver
pub mod Laws
pub mod Texts
pub mod Worked
