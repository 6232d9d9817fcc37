-- Laws that more than one proof cites, and that the height is the smallest power of two.
pub mod Height
pub mod Padded
