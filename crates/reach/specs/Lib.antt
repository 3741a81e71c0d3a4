pub mod Reach
pub mod Number
pub mod Complete
pub mod Turns
