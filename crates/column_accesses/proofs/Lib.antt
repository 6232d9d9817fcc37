-- Laws of accesses.
pub mod Run
