-- What reading ensures.
pub mod Input
