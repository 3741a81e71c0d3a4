pub mod Groups
pub mod Marked
