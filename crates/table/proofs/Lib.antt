pub mod Squares
pub mod Table
