-- Laws of the words that the maps absorb.
pub mod Words
