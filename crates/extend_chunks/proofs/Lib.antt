-- Laws of the chunks.
pub mod Counts
pub mod Running
pub mod Rows
pub mod Passes
