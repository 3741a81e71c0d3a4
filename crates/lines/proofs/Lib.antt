pub mod Decimal
pub mod Fields
pub mod Written
pub mod Longest
pub mod Refusals
pub mod Worked
