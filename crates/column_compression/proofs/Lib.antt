-- Laws of words under weights.
pub mod Weigh
