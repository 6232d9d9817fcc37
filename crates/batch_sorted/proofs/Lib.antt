-- Laws on lists in ascending order.
pub mod Lengths
pub mod Sorting
