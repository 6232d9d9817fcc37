-- Numbers and refusals as text.
pub mod Ascii
pub mod Text
