-- The table's proof.
pub mod Different
pub mod Cases
