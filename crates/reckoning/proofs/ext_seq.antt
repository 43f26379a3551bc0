pub mod Noting
pub mod Tops
