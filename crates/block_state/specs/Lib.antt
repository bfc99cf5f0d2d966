pub mod Message
pub mod State
pub mod Held
pub mod Step
pub mod Contract
