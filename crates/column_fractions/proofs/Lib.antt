-- Laws of the fractions and of their symbols.
pub mod Single
pub mod Weigh
