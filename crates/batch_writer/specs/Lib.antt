-- What writing a batch answers and leaves.
pub mod Contents
pub mod Layout
pub mod Write
