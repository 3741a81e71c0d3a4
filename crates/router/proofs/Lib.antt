pub mod Routing
pub mod Determined
pub mod Written
pub mod Demands
