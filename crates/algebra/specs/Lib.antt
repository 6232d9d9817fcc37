-- The field of elements in plain numbers, and what is proved of it.
pub mod Modulus
pub mod Element
pub mod Ring
pub mod Polynomial
pub mod Theorems
