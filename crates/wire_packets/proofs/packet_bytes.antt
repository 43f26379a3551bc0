pub mod Listed
pub mod Fronts
