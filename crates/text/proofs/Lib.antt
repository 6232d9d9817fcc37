-- Laws that the proofs share.
pub mod Stores
pub mod Digits
