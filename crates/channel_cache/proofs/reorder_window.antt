pub mod Keeping
pub mod PacketLemmas
pub mod Passing
pub mod Rising
pub mod Searches
pub mod Standing
