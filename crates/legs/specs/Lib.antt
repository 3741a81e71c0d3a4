pub mod Pinched
pub mod Sight
pub mod Neighbours
pub mod Leg
pub mod Stops
pub mod Nearer
pub mod Inner
pub mod Checked
