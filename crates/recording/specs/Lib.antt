pub mod Recording
pub mod Calls
