-- The three terms: what every call answers, what each cell is, and how rarely two tables agree on one.
pub mod Term1
pub mod Term2
pub mod Term3
-- What they rest on: how term 3 counts, why entries do not depend on a column's own indeterminate; and terms 2 and 3 over calls of `extend`.
pub mod Counting
pub mod Columns
pub mod Calls
-- What document 02 adds: strict extension, and the check of columns made elsewhere.
pub mod Strict
pub mod Check
