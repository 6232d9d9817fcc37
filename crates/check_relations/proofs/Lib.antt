-- What the relations say, and the first that fails.
pub mod Exact
pub mod First
pub mod Rows
pub mod FirstPlace
pub mod Cells
