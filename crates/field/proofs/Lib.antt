-- Laws that more than one proof cites.
pub mod Below
pub mod Laws
pub mod Totals
pub mod Units
pub mod Division
pub mod Words
