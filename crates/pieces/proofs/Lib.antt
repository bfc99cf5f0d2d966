pub mod Memory
pub mod Loops
pub mod Puts
pub mod Tests
