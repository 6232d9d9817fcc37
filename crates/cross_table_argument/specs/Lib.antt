-- The arguments between tables.
pub mod CrossTable
