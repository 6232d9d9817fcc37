-- The cells of the next row.
pub mod Next
