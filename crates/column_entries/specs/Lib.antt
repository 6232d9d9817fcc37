-- What the rows of the main table bring to the eleven columns.
pub mod Row
pub mod Entries
pub mod Contribution
pub mod Columns
pub mod AuxRow
pub mod Denominators
