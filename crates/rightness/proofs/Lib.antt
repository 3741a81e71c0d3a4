pub mod Rightness
pub mod Own
mod Numbers
pub mod Promised
pub mod Written
