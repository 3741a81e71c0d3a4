pub mod Points
pub mod Determined
