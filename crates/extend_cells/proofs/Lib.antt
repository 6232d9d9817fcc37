-- Laws of the running values together.
pub mod Canonical
