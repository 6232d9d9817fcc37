-- Laws of the lookup columns' steps.
pub mod Lookups
