-- The refusals' numbers, and the limit that several of them share.
pub mod Number
pub mod Long
pub mod Tests
