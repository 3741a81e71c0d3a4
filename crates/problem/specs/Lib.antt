pub mod Problem
pub mod Sizes
