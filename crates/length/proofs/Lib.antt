pub mod Units
pub mod Floats
pub mod Answers
pub mod Determined
