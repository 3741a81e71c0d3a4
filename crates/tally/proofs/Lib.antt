pub mod Parts
pub mod Measuring
