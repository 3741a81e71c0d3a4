pub mod Job
pub mod Kind
pub mod Inner
