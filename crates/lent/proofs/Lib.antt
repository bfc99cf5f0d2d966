pub mod Same
pub mod Sweeps
