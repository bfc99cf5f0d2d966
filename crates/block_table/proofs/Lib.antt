pub mod Row
pub mod Changed
pub mod TableFits
pub mod Turns
pub mod Quick
