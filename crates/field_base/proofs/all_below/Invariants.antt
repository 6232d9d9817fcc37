-- The top bit of what is gathered, and the words that are left, decide.
use Rattle.std.proofs.Common.{◌≡◌, ◌&&◌, drop}
use Rattle.field_base.specs.Words.{all_below}
use Rattle.field_base.proofs.Below.{clear}
use Rattle.field_base.proofs.all_below.Given as goal

abbrev pub invariant-loop-w : goal.invariant-loop-w
invariant-loop-w l = all_below l.words ≡ (clear l.above && all_below (drop l.w-index l.words))
