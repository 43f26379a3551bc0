pub mod pool_loop
pub mod link_pool
pub mod pool_run
pub mod ledger_text
