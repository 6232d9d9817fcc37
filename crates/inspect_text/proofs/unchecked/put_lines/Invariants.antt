-- The lines of the rows before, at most 114 bytes each.
use Rattle.std.proofs.Common.{◌≡◌, ◌*◌, ◌≤◌, length}
use Rattle.std.proofs.lemmas.List.Edits.{sets}
use Rattle.table_rows.specs.Rows.{row_at, rows_from}
use Rattle.inspect_text.specs.Text.{row_text}
use Rattle.inspect_text.proofs.unchecked.put_lines.Given as goal

abbrev pub invariant-loop-row : goal.invariant-loop-row
invariant-loop-row l =
    let lines = rows_from (λ row. row_text (row_at l.trace row) row) 0 l.row in
    (l.at ≤ l.row * 114) × (l.at ≡ length lines) × (l.out ≡ sets l.initial.out 0 lines)
