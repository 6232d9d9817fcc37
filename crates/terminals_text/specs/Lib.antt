-- The text of an answer and its cells.
pub mod Text
