-- Scans, also by chunks, and maps as words.
pub mod Maps
pub mod Scan
pub mod Chunks
pub mod Laws
