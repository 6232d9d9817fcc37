-- The derived challenges.
pub mod Derived
