-- The lines of the columns before, at most 84 bytes each.
use Rattle.std.proofs.Common.{◌≡◌, ◌*◌, ◌≤◌, length}
use Rattle.std.proofs.lemmas.List.Edits.{sets}
use Rattle.table_rows.specs.Rows.{rows_from}
use Rattle.terminals_text.specs.Text.{line}
use Rattle.terminals_text.proofs.unchecked.put_lines.Given as goal

abbrev pub invariant-loop-column : goal.invariant-loop-column
invariant-loop-column l =
    let lines = rows_from (line l.cells) 0 l.column in
    (l.at ≤ l.column * 84) × (l.at ≡ length lines) × (l.out ≡ sets l.initial.out 0 lines)
