pub mod Accepted
pub mod Judging
