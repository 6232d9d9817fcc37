-- What the program `inspect` prints of a batch.
pub mod Text
