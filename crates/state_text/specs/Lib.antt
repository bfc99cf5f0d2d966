pub mod Memory
pub mod State
