pub mod Says
pub mod Table
pub mod Leaving
pub mod Angles
pub mod Closing
pub mod Checking
pub mod Examples
pub mod Wrong
