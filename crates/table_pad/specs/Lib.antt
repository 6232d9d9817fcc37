-- What pad answers and leaves in the main table, and the height of a table that holds a trace.
pub mod Height
pub mod Pad
