-- The first padding row put, each other like the row above it.
use Rattle.std.proofs.Common.{◌≡◌, ◌+◌, ◌-◌, ◌/◌, length, refl, sym, ◌∙◌, arith, rules}
use Rattle.std.proofs.lemmas.List.{length-set, set-set}
use Rattle.table_rows.specs.Rows.{row_at}
use Rattle.table_rows.specs.Writes.{with_row}
use Rattle.table_rows.proofs.Rows.{length-row, replace_past, replace_next, row_of_put}
use Rattle.table_pad.specs.Pad.{padding_row}
use Rattle.table_pad.proofs.Padded.{like, first_padding, rest_like_first}
use Rattle.table_pad.proofs.copy_down.Goals as goal

pub loop-c-init : goal.loop-c-init
loop-c-init c =
    let n = c.args.table_len in
    let e : n + 1 - 1 ≡ n = omega arith in
    (rw e (first_padding c.args.table.now c.put_row.new.table c.row-last.result n (search rules) (search rules) (c.put_row.ensures ∙ rw c.padding_row.ensures)), refl)

pub loop-c-preserved : goal.loop-c-preserved
loop-c-preserved c =
    let n = c.args.table_len in
    let table = c.loop-c.table in
    let k = c.loop-c.c in
    let row = like c.put_row.new.table n in
    let e : k + 1 - 1 ≡ k = omega arith in
    let len : length (row k) ≡ 39 = length-set (row_at c.put_row.new.table n) 0 k ∙ length-row c.put_row.new.table n (search rules) in
    let put : c.repeat_row.new.table ≡ with_row 39 table k (row k) = c.repeat_row.ensures ∙ rw (c.loop-c.invariant.0, set-set) in
    (rw (e, put) (row_of_put table k (row k) (search rules) len), c.loop-c.invariant.1 ∙ replace_next 39 table row k (length c.args.table.now / 39) c.repeat_row.new.table (search rules) (search rules) len put)

pub returns-after-loop-c : goal.returns-after-loop-c
returns-after-loop-c c =
    let n = c.args.table_len in
    let rows = length c.args.table.now / 39 in
    sym
    (rw (sym c.row-last.ensures)
    (rest_like_first c.args.table.now c.put_row.new.table c.row-last.result n (search rules) (search rules) (c.put_row.ensures ∙ rw c.padding_row.ensures) rows (search rules)
    ∙ c.loop-c.invariant.1
    ∙ replace_past 39 c.loop-c.table (like c.put_row.new.table n) c.loop-c.c rows (search rules)))

pub returns-else-table_len-rows : goal.returns-else-table_len-rows
returns-else-table_len-rows c =
    let args = c.args in
    sym (replace_past 39 args.table.now (padding_row (row_at args.table.now (args.table_len - 1))) args.table_len (length args.table.now / 39) c.if-table_len-rows.false)
