pub mod Unswept
