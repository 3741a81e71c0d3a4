pub mod Approval
pub mod Calls
