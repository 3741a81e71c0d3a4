pub mod Tables
pub mod Begun
