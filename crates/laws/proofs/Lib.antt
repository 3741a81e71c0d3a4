pub mod Tests
pub mod Below
pub mod Differences
pub mod Determined
