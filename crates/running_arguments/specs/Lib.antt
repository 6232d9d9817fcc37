-- What the public scans answer and leave.
pub mod Answers
