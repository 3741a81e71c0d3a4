pub mod Limits
pub mod Board
pub mod Handed
pub mod Inner
pub mod Row
pub mod Checked
