pub mod Laws
pub mod Meanings
pub mod ReadBack
pub mod WriteBack
