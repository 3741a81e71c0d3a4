pub mod Packed
pub mod Inner
