-- A law on lengths.
pub mod Tests
