-- Laws that more than one proof cites.
pub mod Differences
pub mod Accepted
pub mod Filled
