-- The last row's cells of a batch, and the rows at hand on the way to them.
pub mod Terminals
pub mod Kept
