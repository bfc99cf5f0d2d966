pub mod Lists
pub mod Keys
pub mod Turns
