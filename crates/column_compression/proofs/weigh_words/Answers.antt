-- Word after word, from the last to the first.
use Prim.Native.Nat.{◌-◌}
use native.Mathlib.Omega.{arith}
use Rattle.field.proofs.Totals.{more_few, few_in}
use Rattle.column_compression.proofs.Weigh.{one_more}
use Rattle.column_compression.proofs.weigh_words.Goals as goal

pub loop-i-preserved : goal.loop-i-preserved
loop-i-preserved g c =
    let i = c.loop-i.i - 1 in (
      few_in _ _ (omega arith) (more_few _ c.loop-i.invariant.0 c.weigh_more-sums.ensures.1),
      one_more c.args.weights c.args.words.now c.args.from c.loop-i.i i _ (omega arith) (omega arith) (omega arith) c.weigh_more-sums.ensures.0 c.loop-i.invariant.1,
    )
