-- A map applied many times.
pub mod Repeated
