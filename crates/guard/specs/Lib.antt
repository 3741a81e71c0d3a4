pub mod Guard
pub mod Copying
