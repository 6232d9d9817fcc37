-- The proofs of the statements of specs/, and the laws that crates above cite.
pub mod RingLaws
pub mod Solver
pub mod Residues
pub mod Powers
pub mod Pigeonhole
pub mod Primality
pub mod FieldLaws
pub mod Fermat
pub mod Cubic
pub mod CubicField
pub mod Roots
pub mod Base
pub mod Elements
pub mod NoRoot
pub mod ElementField
pub mod Theorems
