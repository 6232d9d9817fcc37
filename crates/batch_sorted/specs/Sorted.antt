-- A list of words in ascending order, by insertion. That it is the same bag, and not descending, is a theorem: `terms_batches` Written `SortedList`.
use Rattle.std.specs.Prelude.{cond, List, [], ◌∷◌, ℕ, leb}

unfoldable pub inserted : ℕ → List ℕ → List ℕ
inserted word [] = word ∷ []
inserted word (other ∷ others) = cond (leb word other) (word ∷ other ∷ others) (other ∷ inserted word others)

unfoldable pub sorted : List ℕ → List ℕ
unfolding inserted
sorted [] = []
sorted (word ∷ ws) = inserted word (sorted ws)
