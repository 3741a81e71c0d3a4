pub mod Asked
pub mod Request
pub mod Offers
