pub mod Rows
pub mod Judged
pub mod ReadBack
pub mod Exactly
