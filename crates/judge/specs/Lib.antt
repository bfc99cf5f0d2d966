pub mod Limits
pub mod Verdict
