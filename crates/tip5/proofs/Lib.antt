-- Laws on the table.
pub mod Table
