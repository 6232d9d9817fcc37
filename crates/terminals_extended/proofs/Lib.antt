-- Laws of zeros.
pub mod Zeros
