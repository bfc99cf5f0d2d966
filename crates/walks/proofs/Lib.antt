pub mod Told
pub mod Locals
pub mod Regrouped
pub mod Borrowed
