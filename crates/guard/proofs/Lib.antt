pub mod Made
pub mod Copying
pub mod Shut
