pub mod NumberSteps
pub mod Packing
