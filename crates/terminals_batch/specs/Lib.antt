-- The last cells of a batch in a lent slice.
pub mod Into
