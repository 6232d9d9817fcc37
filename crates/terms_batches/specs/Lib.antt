-- Document 02, One and Three: a run has one batch in each form, and the writer writes it.
pub mod Opening
pub mod OneBatch
pub mod Written
pub mod SameBytes
