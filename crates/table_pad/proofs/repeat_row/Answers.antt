-- The words below the clock copied one by one, from where nothing is written.
use Rattle.std.proofs.Common.{◌≡◌, ◌+◌, ◌-◌, ◌*◌, drop, add-one, arith, rules}
use Rattle.std.proofs.lemmas.List.Edits.{paste_none}
use Rattle.table_pad.proofs.Padded.{paste_above, repeated}
use Rattle.table_pad.proofs.repeat_row.Goals as goal

pub loop-i-init : goal.loop-i-init
loop-i-init c = paste_none c.args.table.now (c.args.c * 39 + 1) (drop (c.args.c * 39 + 1 - 39) c.args.table.now)

pub loop-i-preserved : goal.loop-i-preserved
loop-i-preserved c =
    let to = c.args.c * 39 + 1 in
    let i = c.loop-i.i in
    rw (c.loop-i.invariant, add-one i, paste_above c.args.table.now to (to - 39) i (omega arith) (omega arith))

pub returns : goal.returns
returns c =
    let args = c.args in
    let e : c.loop-i.i ≡ 38 = omega arith in
    rw (c.loop-i.invariant, e, repeated args.table.now args.c (search rules) (search rules))
