-- Laws of steps as maps, of maps applied many times, and of padding rows.
pub mod Affine
pub mod Repeated
pub mod Padding
