-- The words from i on are in the sums.
use Rattle.std.proofs.Common.{◌≡◌, ◌+◌, ◌-◌, drop}
use Rattle.field.specs.Element.{sum}
use Rattle.field.specs.Weighed.{weighed_of, Few}
use Rattle.column_entries.specs.Row.{weigh}
use Rattle.column_compression.proofs.weigh_words.Given as goal

abbrev pub invariant-loop-i : goal.invariant-loop-i
invariant-loop-i g l =
    Few (g.row.N - (l.from + l.i)) l.sums
    × (weighed_of l.sums ≡ sum (weigh (drop (l.from + l.i) l.weights) (drop l.i l.words)) (weighed_of l.initial.sums))
