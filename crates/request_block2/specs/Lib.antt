pub mod Block2
