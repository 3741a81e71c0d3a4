pub mod Answers
pub mod Says
