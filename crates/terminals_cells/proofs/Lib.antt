-- Laws of a table of which the first rows are at hand, and of the cells' length.
pub mod Longer
pub mod Filled
pub mod Raised
pub mod Padded
pub mod Length
