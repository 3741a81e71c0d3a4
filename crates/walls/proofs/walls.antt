-- What the proofs of both walls use.
pub mod Beside
