-- What the exported functions take, answer and write.
pub mod Into
pub mod Field
pub mod Decode
pub mod Open
pub mod Write
pub mod Check
