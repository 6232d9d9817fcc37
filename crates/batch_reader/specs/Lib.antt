-- What a batch holds, and what reading it answers.
pub mod Commands
pub mod Reading
pub mod Answers
pub mod Steps
