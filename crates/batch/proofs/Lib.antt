-- Why what a batch brings fits, and where its counts lie.
pub mod Room
pub mod Opened
