pub mod Steps
pub mod Rows
pub mod Calls
pub mod Runs
