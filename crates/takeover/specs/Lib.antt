pub mod standby
pub mod takeover_loop
