pub mod Floats
pub mod Answers
pub mod Directions
pub mod Determined
