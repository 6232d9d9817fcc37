-- The first padding row put, each other like the row above it.
use Rattle.std.proofs.Common.{◌≡◌, ◌+◌, ◌-◌}
use Rattle.table_rows.specs.Rows.{row_at}
use Rattle.table_rows.specs.Writes.{with_rows}
use Rattle.table_pad.proofs.Padded.{like}
use Rattle.table_pad.proofs.copy_down.Given as goal

abbrev pub invariant-loop-c : goal.invariant-loop-c
invariant-loop-c l =
    (row_at l.table (l.c - 1) ≡ like l.initial.table l.table_len (l.c - 1))
    × (with_rows 39 l.initial.table (like l.initial.table l.table_len) (l.table_len + 1) (l.rows - (l.table_len + 1)) ≡ with_rows 39 l.table (like l.initial.table l.table_len) l.c (l.rows - l.c))
