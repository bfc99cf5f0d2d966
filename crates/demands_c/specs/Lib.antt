pub mod Exports
pub mod Compiled
