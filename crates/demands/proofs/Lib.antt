pub mod Determined
pub mod OwnStep
pub mod Runs
pub mod Held
pub mod Push
pub mod Falling
pub mod Demand3
pub mod Compiled
