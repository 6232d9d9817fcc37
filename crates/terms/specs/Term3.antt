-- Term 3: two tables with different entries in a column end on the same cell for few indeterminates.
use Rattle.std.specs.Prelude.{◌≡◌, ◌≢◌, cond, List, map, ℕ, ◌+◌, ◌-◌, ◌≤◌, ◌<◌, max, eqb, length}
use Rattle.refusal.specs.Number.{Done}
use Rattle.algebra.specs.Polynomial.{All, Distinct}
use Rattle.field.specs.declared.XFieldElement.{XFieldElement}
use Rattle.air.specs.ChallengeId.{SAMPLE-COUNT}
use Rattle.challenges.specs.Derived.{challenge_at}
use Rattle.table_rows.specs.Rows.{rows}
use Rattle.column_entries.specs.Columns.{Column, Kind, evaluation, product, lookup, kind_of, Entry, indeterminate_of, weights_of, entries}
use Rattle.column_entries.specs.AuxRow.{cell_at}
use Rattle.extend_answer.specs.Answer.{extend_answer}
use Rattle.extend.specs.Extend.{extend_aux}
use Rattle.terms.specs.Counting.{SameBag, NumeratorsDiffer}

-- the sampled challenges with challenge i set to x
abbrev pub put : ℕ → XFieldElement → (ℕ → XFieldElement) → ℕ → XFieldElement
put i x sampled j = cond (eqb j i) x (sampled j)

-- all entries of a column in a table, under the sampled challenges
abbrev pub entries_of : (c : Column) → (ℕ → XFieldElement) → List ℕ → List (Entry (kind_of c))
entries_of c sampled main = entries c (map sampled (weights_of c)) main (rows main)

-- Extension accepts the table and leaves v in the column's last cell, with x as the column's own indeterminate. The other sampled
-- challenges are given; the derived ones, the chunk length and what auxiliary and work held before may be anything.
pub record Ends (c : Column) (sampled : ℕ → XFieldElement) (x : XFieldElement) (main : List ℕ) (v : XFieldElement) : Type 0 where
  pub challenges : List ℕ
  pub chunk : ℕ
  pub aux : List ℕ
  pub work : List ℕ
  pub given : (j : ℕ) → j < SAMPLE-COUNT → challenge_at challenges j ≡ put (indeterminate_of c) x sampled j
  pub accepted : extend_answer main challenges chunk aux work ≡ Done
  pub last : cell_at c (extend_aux main challenges chunk aux work) (rows main - 1) ≡ v

-- entries differ as lists; as bags; as numerators, summed modulo p, for some element
abbrev pub Differ : (k : Kind) → List (Entry k) → List (Entry k) → Type 0
Differ evaluation es fs = es ≢ fs
Differ product es fs = ¬ SameBag es fs
Differ lookup es fs = NumeratorsDiffer es fs

-- the larger number of entries; in lookup columns both numbers together less one
abbrev pub bound : Kind → ℕ → ℕ → ℕ
bound evaluation m n = max m n
bound product m n = max m n
bound lookup m n = m + n - 1

abbrev pub Term3 : Type 0
Term3 =
    (c : Column) (sampled : ℕ → XFieldElement) (main₁ main₂ : List ℕ)
    → Differ (kind_of c) (entries_of c sampled main₁) (entries_of c sampled main₂)
    → (xs : List XFieldElement) → Distinct xs
    → All (λ x. (v : XFieldElement) × Ends c sampled x main₁ v × Ends c sampled x main₂ v) xs
    → length xs ≤ bound (kind_of c) (length (entries_of c sampled main₁)) (length (entries_of c sampled main₂))
