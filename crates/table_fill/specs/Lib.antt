-- What fill answers and leaves in the main table.
pub mod Fill
pub mod Counted
