pub mod Paths
pub mod Nets
pub mod Answers
pub mod Inner
