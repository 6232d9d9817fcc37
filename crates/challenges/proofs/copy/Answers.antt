-- The first i words are those of `from`, the others as they were.
use Rattle.std.proofs.Common.{◌≡◌, ◌+◌, ◌<◌, length, get_or, sym, ap, ◌∙◌, add-one, zero-add, arith}
use Rattle.std.proofs.Math.ListN.{set}
use Rattle.std.proofs.Math.Seq.{paste-suc, take-length}
use Rattle.std.proofs.lemmas.List.Edits.{paste_none}
use lib.Seq.{paste}
use Rattle.challenges.proofs.copy.Goals as goal

pub loop-i-init : goal.loop-i-init
loop-i-init c = paste_none c.args.to.now 0 c.args.from.now

pub loop-i-preserved : goal.loop-i-preserved
loop-i-preserved c =
    let from = c.args.from.now in
    let to = c.args.to.now in
    let i = c.loop-i.i in
    let room : 0 + i < length to = omega arith in
    ap (λ l. set l i (get_or from i 0)) c.loop-i.invariant ∙ ap (λ n. set (paste to 0 from i) n (get_or from i 0)) (sym (zero-add i))
    ∙ paste-suc to 0 from i 0 room (omega arith) ∙ ap (paste to 0 from) (sym (add-one i))

pub returns : goal.returns
returns c =
    let all : c.loop-i.i ≡ length c.args.from.now = omega arith in
    c.loop-i.invariant ∙ rw (all, zero-add, take-length)
