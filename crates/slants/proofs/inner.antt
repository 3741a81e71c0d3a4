-- What the proofs of `first_blocked` and of its callers use: laws over numbers.
pub mod Places
mod Turns
