-- The chunks of a table.
pub mod Chunks
