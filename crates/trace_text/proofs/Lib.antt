pub mod ChannelWords
pub mod ChannelBack
pub mod ReadAgain
pub mod Checks
pub mod Judging
pub mod GoingOn
pub mod AsRead
pub mod Spelling
