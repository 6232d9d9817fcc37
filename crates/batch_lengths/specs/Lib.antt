-- Lengths of lists and of the batch.
pub mod Lengths
