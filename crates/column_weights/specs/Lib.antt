-- What the columns take for granted.
pub mod Ready
