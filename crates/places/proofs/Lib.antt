pub mod Places
pub mod Tagged
pub mod Cases
pub mod Looks
pub mod Sighted
pub mod Put
