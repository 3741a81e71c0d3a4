pub mod Digits
pub mod Entries
pub mod Rows
pub mod Counting
pub mod Trips
pub mod Worked
