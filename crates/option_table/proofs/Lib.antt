pub mod Rising
pub mod LookUp
