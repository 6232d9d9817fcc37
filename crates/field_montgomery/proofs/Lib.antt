-- The proofs of the statements of specs/, and the laws that crates above cite.
pub mod Conversion
pub mod Theorems
pub mod Many
pub mod Reduction
