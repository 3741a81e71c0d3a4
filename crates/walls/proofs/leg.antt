-- What the walks over the cells use: laws over a leg's indices.
pub mod Indices
