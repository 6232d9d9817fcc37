-- What extension answers and leaves.
pub mod Extend
