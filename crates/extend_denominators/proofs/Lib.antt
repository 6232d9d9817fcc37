-- Laws of the denominators.
pub mod Parts
pub mod Windows
pub mod Products
pub mod Zeros
pub mod Rows
pub mod Items
pub mod Differences
