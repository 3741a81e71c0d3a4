pub mod Tracking
pub mod Calls
