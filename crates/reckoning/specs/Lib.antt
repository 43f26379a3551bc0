pub mod ext_seq
pub mod burst_plan
pub mod link_budget
