pub mod Determined
pub mod Answering
pub mod Answered
