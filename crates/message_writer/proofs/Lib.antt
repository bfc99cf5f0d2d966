pub mod Ahead
pub mod Writings
pub mod Refuses
pub mod RoundTrip
