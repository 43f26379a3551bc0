pub mod Fronts
pub mod Notes
