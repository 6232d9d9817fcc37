-- What the functions over accesses are stated with.
pub mod Access
