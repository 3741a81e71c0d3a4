pub mod Steps
pub mod Moves
pub mod Shared
pub mod Legs
pub mod Chains
