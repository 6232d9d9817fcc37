-- The first i words are in the slice, which is as it was elsewhere.
use mathlib.Core.Path.{◌≡◌}
use lib.ListN.{drop}
use lib.Seq.{paste}
use Rattle.field_montgomery.specs.Form.{plain}
use Rattle.batch_words.specs.Words.{words}
use Rattle.batch_words.proofs.unchecked.put_words.Given as goal

abbrev pub invariant-loop-i : goal.invariant-loop-i
invariant-loop-i l = l.slice ≡ paste l.initial.slice l.to (plain l.form (words l.n (drop l.at l.batch))) l.i
