-- From tests to answers, and back.
pub mod Answers
pub mod First
