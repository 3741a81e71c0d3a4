-- What the proof of `first_walled` and those of its callers use: laws over numbers.
pub mod Counting
mod Cells
