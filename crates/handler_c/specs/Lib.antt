pub mod Options
pub mod Contract
