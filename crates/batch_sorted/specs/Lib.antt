-- A list in ascending order.
pub mod Sorted
