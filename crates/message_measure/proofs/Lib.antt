pub mod Heads
pub mod Measures
pub mod Taken
