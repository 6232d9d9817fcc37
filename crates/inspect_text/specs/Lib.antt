-- What `inspect` prints of a trace.
pub mod Text
pub mod Theorems
