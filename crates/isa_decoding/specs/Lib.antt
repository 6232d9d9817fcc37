-- The decoding of a row.
pub mod Decode
pub mod Byte
pub mod Candidate
pub mod Answer
pub mod Theorems
