pub mod Bits
pub mod Cells
pub mod Copied
pub mod Pinch
pub mod Seen
