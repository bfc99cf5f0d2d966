pub mod Known
pub mod Twice
pub mod Sixteen
pub mod Crossing
pub mod Pages
pub mod Uploads
pub mod Figures
