-- What a window brings to the three lookup columns, and how it is kept in a slice.
pub mod Fractions
pub mod Stored
