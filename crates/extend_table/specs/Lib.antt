-- The auxiliary table, and rows of it that follow given ones.
pub mod Extended
pub mod Behind
