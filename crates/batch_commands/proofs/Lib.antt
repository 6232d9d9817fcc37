-- Laws on tables and layouts, and on a k.
pub mod Tables
pub mod Laid
pub mod Heights
