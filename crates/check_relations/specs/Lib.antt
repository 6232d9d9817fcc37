-- The local relations between offered cells, and where they fail first.
pub mod Relations
pub mod Offered
pub mod First
pub mod Window
