-- Laws that more than one proof cites.
pub mod Items
pub mod Whole
pub mod Scans
pub mod Chunks
pub mod Scanned
pub mod InPlace
pub mod Steps
