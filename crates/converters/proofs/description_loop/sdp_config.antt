pub mod Cuts
pub mod Behind
pub mod Joined
pub mod Faults
pub mod WrittenLines
pub mod ReadBack
pub mod LongTexts
pub mod InRange
