pub mod Reply
pub mod Found
