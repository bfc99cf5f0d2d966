pub mod Demand3
pub mod Falling
pub mod Clocks
pub mod Compiled
