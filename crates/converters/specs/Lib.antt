pub mod capture_loop
pub mod description_loop
