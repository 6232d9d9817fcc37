-- The table of tip5's S-box.
pub mod LookupTable
