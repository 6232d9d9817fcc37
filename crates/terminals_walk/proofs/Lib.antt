-- Laws of a table that goes on with padding, of extension's last row, and of the walk to it.
pub mod Grown
pub mod LastRow
pub mod Walked
