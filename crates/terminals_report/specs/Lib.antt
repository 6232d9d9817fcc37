-- What the program `terminals` prints of a batch.
pub mod Text
