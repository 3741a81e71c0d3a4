pub mod Answers
pub mod Directions
