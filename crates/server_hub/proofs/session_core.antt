pub mod Living
pub mod Short
pub mod Counting
pub mod Planned
pub mod JoinTimes
pub mod TickNotes
pub mod TickSums
