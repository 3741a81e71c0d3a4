pub mod Puts
pub mod Backward
