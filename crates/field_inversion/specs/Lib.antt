-- What a batch of inversions leaves.
pub mod Inverted
pub mod Passes
