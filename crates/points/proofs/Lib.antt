pub mod Same
pub mod Reading
