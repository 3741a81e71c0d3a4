pub mod Leading
pub mod Halving
pub mod Playing
pub mod Scanning
pub mod Climbs
