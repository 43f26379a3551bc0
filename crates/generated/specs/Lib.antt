pub mod trace_gen
pub mod summary
pub mod generated_run
