pub mod Turns
pub mod Rooms
