-- Laws on what a batch holds and how it is read.
pub mod Commands
pub mod Passing
pub mod Faults
pub mod Readings
pub mod Ordered
pub mod Forms
pub mod Bounds
pub mod Reached
pub mod LaidOut
pub mod Sections
pub mod Rows
