-- The instructions and their opcodes.
pub mod Opcode
pub mod Instruction
