pub mod InOrder
pub mod Stray
