-- The cell of a column in a row of the auxiliary table.
use mathlib.Core.Path.{◌≡◌, ◌∙◌}
use mathlib.Core.List.{List}
use Prim.Native.Nat.{ℕ, ◌*◌, ◌<◌}
use Rattle.table_rows.specs.Rows.{rows}
use Rattle.extend_chunks.proofs.Rows.{element_in_row}
use Rattle.column_entries.specs.Columns.{Column, cell}
use Rattle.column_entries.specs.AuxRow.{place_of, cell_at}
use Rattle.column_entries.proofs.AuxRow.{length-row, value_at_lem, place_within}
use Rattle.extend_table.specs.Extended.{cells_of_row, extended}

pub cell_at_lem : (main challenges : List ℕ) (c : Column) (d : ℕ) → d < rows main
    → cell_at c (extended main challenges) d ≡ cell c challenges main d
unfolding extended
cell_at_lem main challenges c d within =
    element_in_row 33 (cells_of_row challenges main) (rows main) (λ r l h. length-row (λ c. cell c challenges main r)) d (place_of c * 3) within (place_within c)
    ∙ value_at_lem (λ c. cell c challenges main d) c
