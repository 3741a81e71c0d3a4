pub mod Output
pub mod Inner
