-- What a window of padding brings, and a row behind itself.
pub mod Padding
pub mod OneRow
