pub mod EventLines
pub mod HeadLines
pub mod Following
pub mod TakingOver
