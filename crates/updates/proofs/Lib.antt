pub mod Saved
pub mod Loads
pub mod SavesBack
pub mod Carried
pub mod Typed
pub mod Runs
pub mod Example
