pub mod Meanings
pub mod Frame
