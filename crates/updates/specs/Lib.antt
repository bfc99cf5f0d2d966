pub mod Updates
pub mod Example
