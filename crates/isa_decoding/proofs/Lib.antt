-- Laws that more than one proof cites, and the proofs of specs/Theorems.antt.
pub mod Find
pub mod Tags
pub mod Bytes
pub mod Theorems
