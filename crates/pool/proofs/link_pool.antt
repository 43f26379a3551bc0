pub mod Filling
pub mod Ordering
pub mod Sums
pub mod Granting
pub mod Taking
pub mod Dealing
pub mod Gathering
pub mod Closing
