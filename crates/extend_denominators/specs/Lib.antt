-- The denominators of rows, of chunks and of a table.
pub mod Behind
pub mod Items
