pub mod Entries
pub mod Held
pub mod Cases
pub mod Quick
pub mod Turns
