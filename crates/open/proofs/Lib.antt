pub mod Grouping
pub mod Looking
pub mod Listing
