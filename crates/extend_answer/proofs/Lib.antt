-- Laws that more than one proof cites.
pub mod Accepted
pub mod Undecodable
pub mod Words
