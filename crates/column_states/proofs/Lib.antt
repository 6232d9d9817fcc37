-- Laws of weighing.
pub mod Weighing
