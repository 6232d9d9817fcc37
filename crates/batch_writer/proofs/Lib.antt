-- Laws on commands as they are laid out.
pub mod Laying
mod Putting
pub mod Parts
pub mod Lengths
pub mod Heights
mod Reaching
pub mod Answers
