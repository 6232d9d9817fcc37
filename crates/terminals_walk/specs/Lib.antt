-- A table that goes on with padding.
pub mod Grown
