pub mod Reading
pub mod Above
pub mod Determined
pub mod Worked
