-- The running value of a column, row by row.
pub mod NoEntry
pub mod Steps
pub mod Walk
