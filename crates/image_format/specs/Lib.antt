pub mod Rows
pub mod Image
pub mod Promises
