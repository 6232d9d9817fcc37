-- What opening a batch answers and leaves.
pub mod Open
pub mod Lent
