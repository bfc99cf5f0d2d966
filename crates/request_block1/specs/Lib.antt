pub mod Block1
