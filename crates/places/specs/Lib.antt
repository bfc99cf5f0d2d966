pub mod Places
pub mod Sight
