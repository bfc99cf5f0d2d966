pub mod Handler
pub mod Touch
pub mod Agreed
pub mod Strict
pub mod Refusals
pub mod Starts
pub mod Written
