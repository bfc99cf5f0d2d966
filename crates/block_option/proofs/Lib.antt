pub mod Laws
pub mod Rfc7959
