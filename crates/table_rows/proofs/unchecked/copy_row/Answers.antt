-- The row's words copied one by one.
use Rattle.std.proofs.Common.{◌≡◌, suc, ◌+◌, ◌*◌, ◌<◌, drop, length, length-drop, add-one, arith}
use Rattle.std.proofs.Math.Seq.{paste-suc}
use Rattle.std.proofs.lemmas.List.{get_or-drop}
use Rattle.std.proofs.lemmas.List.Edits.{paste_none}
use Rattle.table_rows.proofs.unchecked.copy_row.Goals as goal

pub loop-i-init : goal.loop-i-init
loop-i-init c = paste_none c.args.to.now (c.args.c * 39) (drop (c.args.c * 39) c.args.from.now)

pub loop-i-preserved : goal.loop-i-preserved
loop-i-preserved c =
    let at = c.args.c * 39 in
    let i = c.loop-i.i in
    let from = c.args.from.now in
    let within : i < length (drop at from) = simp length-drop (omega arith) in
    rw (c.loop-i.invariant, ← get_or-drop at from i 0, add-one i) (paste-suc c.args.to.now at (drop at from) i 0 (omega arith) within)

pub returns : goal.returns
returns c =
    let all : c.loop-i.i ≡ 39 = omega arith in
    let end : suc c.args.c * 39 ≡ c.args.c * 39 + 39 = omega arith in
    rw (c.loop-i.invariant, all, end)
