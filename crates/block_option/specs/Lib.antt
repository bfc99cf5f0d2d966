pub mod Uint
pub mod Option
pub mod Rfc7959
