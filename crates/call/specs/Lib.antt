pub mod Call
pub mod Contract
