pub mod Units
pub mod Floats
pub mod Answers
