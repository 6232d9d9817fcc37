-- The columns and the challenges count from 0.
pub mod Counted
