-- The proved table of cases.
pub mod Tables
pub mod Cases
