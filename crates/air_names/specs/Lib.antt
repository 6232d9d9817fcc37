-- The names of instructions.
pub mod Instruction
