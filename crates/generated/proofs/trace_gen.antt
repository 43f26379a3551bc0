pub mod Drawing
pub mod Coming
pub mod Few
pub mod Texts
