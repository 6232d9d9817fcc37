-- Row by row, each with multiplicity 0.
use Rattle.std.proofs.Common.{◌≡◌, ◌-◌}
use Rattle.table_rows.specs.Writes.{with_rows}
use Rattle.table_fill.specs.Fill.{filled_row}
use Rattle.table_fill.proofs.copy_rows.Given as goal

abbrev pub invariant-loop-c : goal.invariant-loop-c
invariant-loop-c l =
    with_rows 39 l.initial.table (filled_row l.trace (λ k. 0)) 0 (l.rows - 0) ≡ with_rows 39 l.table (filled_row l.trace (λ k. 0)) l.c (l.rows - l.c)
