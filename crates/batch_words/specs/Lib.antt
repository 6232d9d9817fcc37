-- What bytes say.
pub mod Words
pub mod Pasted
