-- One row of a column, rows one after the other, and the opcodes that bring entries.
pub mod Opcodes
pub mod Step
pub mod Walk
