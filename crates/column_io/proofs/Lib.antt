-- Laws of the words that an instruction moves.
pub mod Moved
