-- What is below p so far leaves the words from i on to decide.
use mathlib.Core.Path.{◌≡◌}
use lib.ListN.{drop}
use Rattle.field_base.specs.Words.{all_below}
use Rattle.batch_words.specs.Words.{words}
use Rattle.batch_words.proofs.unchecked.words_below.Given as goal

abbrev pub invariant-loop-i : goal.invariant-loop-i
invariant-loop-i l = let ws = words l.n (drop l.at l.batch) in all_below ws ≡ all_below (drop l.i ws)
