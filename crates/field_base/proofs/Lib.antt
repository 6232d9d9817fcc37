-- Laws that more than one proof cites.
pub mod Modular
pub mod Powers
pub mod Below
