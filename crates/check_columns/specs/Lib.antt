-- What the check answers.
pub mod Check
