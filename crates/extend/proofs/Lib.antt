-- Laws of extension.
pub mod Written
