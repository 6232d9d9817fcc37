-- Laws that the proofs cite.
pub mod Items
pub mod Totals
pub mod Passes
pub mod Inverses
