-- The top bit of what is gathered, and the words from there on, decide.
use Rattle.std.proofs.Common.{sym, ◌∙◌, arith, rules}
use mathlib.Core.Bool.{and-true}
use Rattle.field_base.proofs.Below.{gathered_at, holds_past}
use Rattle.field_base.proofs.all_below.Goals as goal

pub loop-w-preserved : goal.loop-w-preserved
loop-w-preserved c =
    let words = c.args.words.now in
    let i = c.loop-w.w-index in
    c.loop-w.invariant ∙ gathered_at words i c.loop-w.above c.wrapping_sub_u64.result (search rules) (omega (arith, c.type_inv.words i)) (search rules) c.wrapping_sub_u64.ensures.value

pub returns : goal.returns
returns c = sym (c.loop-w.invariant ∙ rw (holds_past _ c.loop-w.w-index c.loop-w-test.false, and-true))
