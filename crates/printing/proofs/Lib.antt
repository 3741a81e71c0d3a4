mod Printing
mod Calls
pub mod Determined
