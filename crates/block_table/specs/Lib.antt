pub mod Table
pub mod Quick
