pub mod Tracks
pub mod Kind
pub mod Faults
pub mod Layout
pub mod Answers
pub mod Inner
