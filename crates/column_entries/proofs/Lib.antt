-- Laws of the arguments over the entries of rows that follow one another.
pub mod Weigh
pub mod Absorbing
pub mod Products
pub mod Fractions
pub mod AuxRow
