-- A table as its rows, and rows written into it.
pub mod Rows
pub mod Writes
