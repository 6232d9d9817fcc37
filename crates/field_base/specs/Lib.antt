-- What the operations on words give.
pub mod Words
pub mod Answers
pub mod Totals
