pub mod Approving
