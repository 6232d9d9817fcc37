-- Laws on bytes, as they are read and as they are written.
pub mod Bytes
pub mod Writing
pub mod Pasting
