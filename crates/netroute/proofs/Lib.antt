pub mod Limits
pub mod Searching
