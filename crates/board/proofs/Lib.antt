pub mod Bytes
pub mod Numbers
pub mod Cells
pub mod Verdicts
pub mod Rows
pub mod Determined
pub mod Telling
