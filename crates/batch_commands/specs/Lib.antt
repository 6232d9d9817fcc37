-- The format of a batch, command by command.
pub mod Format
pub mod Form
pub mod Fault
pub mod Code
