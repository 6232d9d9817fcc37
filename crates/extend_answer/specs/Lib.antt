-- What extension answers.
pub mod Answer
pub mod Strict
pub mod RowsAnswer
