pub mod Messages
pub mod Shown
