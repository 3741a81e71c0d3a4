pub mod Leg
