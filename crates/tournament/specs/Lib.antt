pub mod Contest
pub mod Tournament
pub mod Nodes
