pub mod Nets
pub mod Indexed
