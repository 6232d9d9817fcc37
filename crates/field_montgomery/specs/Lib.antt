-- Base elements in Montgomery form.
pub mod Form
pub mod Answers
pub mod Theorems
