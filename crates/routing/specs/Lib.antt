pub mod Routing
pub mod Calls
