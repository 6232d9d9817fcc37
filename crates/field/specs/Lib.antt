-- What the operations on elements give.
pub mod Element
pub mod Words
pub mod Answers
pub mod Weighed
