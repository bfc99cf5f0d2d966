pub mod Computes
pub mod Cases
pub mod Incident
pub mod Shams
pub mod Falling
pub mod Given
pub mod Longest
