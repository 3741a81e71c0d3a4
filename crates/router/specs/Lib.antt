pub mod Answers
pub mod Demands
