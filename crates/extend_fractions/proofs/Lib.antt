-- Laws of the denominators.
pub mod Joint
pub mod Stored
