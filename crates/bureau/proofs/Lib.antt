pub mod Determined
pub mod Answering
pub mod Finding
pub mod Worked
