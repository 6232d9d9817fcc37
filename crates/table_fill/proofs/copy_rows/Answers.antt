-- Row by row, each with multiplicity 0.
use Rattle.std.proofs.Common.{◌≡◌, ◌+◌, ◌*◌, ◌/◌, length, set, sym, ◌∙◌, arith, rules}
use Rattle.std.proofs.lemmas.List.{length-set}
use Rattle.table_rows.specs.Rows.{row_at}
use Rattle.table_rows.specs.Writes.{with_row}
use Rattle.table_rows.proofs.Rows.{length-row, replace_past, replace_next, set_in_put}
use Rattle.table_fill.specs.Fill.{filled_row}
use Rattle.table_fill.proofs.Filled.{rows_replaced}
use Rattle.table_fill.proofs.copy_rows.Goals as goal

pub loop-c-preserved : goal.loop-c-preserved
loop-c-preserved c =
    let trace = c.args.trace.now in
    let table = c.loop-c.table in
    let k = c.loop-c.c in
    let row = filled_row trace (λ c. 0) in
    let next = set c.copy_row.new.to (k * 39 + 38) 0 in
    let put : next ≡ with_row 39 table k (row k) = rw c.copy_row.ensures (set_in_put 39 table k (row_at trace k) 38 0 (search rules) (omega (arith, length-row trace k (search rules)))) in
    c.loop-c.invariant ∙ replace_next 39 table row k (length trace / 39) next (search rules) (search rules) (length-set (row_at trace k) 38 0 ∙ length-row trace k (search rules)) put

pub returns : goal.returns
returns c =
    let trace = c.args.trace.now in
    sym (sym (rows_replaced trace c.args.table.now (λ c. 0) (search rules)) ∙ c.loop-c.invariant ∙ replace_past 39 c.loop-c.table (filled_row trace (λ c. 0)) c.loop-c.c (length trace / 39) (search rules))
