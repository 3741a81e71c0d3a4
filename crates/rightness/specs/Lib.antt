pub mod Right
pub mod Own
pub mod Demands
