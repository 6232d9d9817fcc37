-- The constant's value.
pub mod Half
