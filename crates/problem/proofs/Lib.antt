pub mod Sizes
pub mod Fair
pub mod Admitted
pub mod Rounding
pub mod Theorems
