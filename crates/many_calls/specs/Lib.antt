pub mod Twice
pub mod Crossing
pub mod Pages
pub mod Uploads
pub mod Figures
