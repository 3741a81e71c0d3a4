pub mod Painting
pub mod Grid
