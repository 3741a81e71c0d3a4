pub mod Order
pub mod Search
pub mod Demands
pub mod Fair
pub mod Back
pub mod Lent
