-- Term 3 holds: by term 2 the last cell is the column's argument over its entries, which do not depend on the column's own indeterminate,
-- so the bound is that of the column's kind.
use mathlib.Core.Path.{◌≡◌, refl, ap, sym, ◌∙◌, subst}
use mathlib.Core.Logic.{◌≢◌}
use mathlib.Core.Bool.{false}
use mathlib.Core.List.{List, [], ◌∷◌, map}
use Prim.Native.Nat.{ℕ, suc, ◌-◌, ◌*◌, ◌≤◌, ◌<◌}
use native.Mathlib.Omega.{arith}
use lib.Dec.{eqb}
use lib.ListN.{length}
use borrow.Author.Tests.{eqb-false, eq-eqb, ne_eqb}
use Rattle.algebra.specs.Polynomial.{All, Distinct}
use Rattle.field.specs.Element.{Canonical}
use Rattle.field.specs.declared.XFieldElement.{XFieldElement}
use Rattle.air.specs.ChallengeId.{SAMPLE-COUNT}
use Rattle.challenges.specs.Derived.{challenge_at}
use Rattle.cross_table_argument.specs.CrossTable.{evaluation_argument, permutation_argument}
use Rattle.table_rows.specs.Rows.{rows}
use Rattle.column_entries.specs.Columns.{Column, Kind, evaluation, product, lookup, kind_of, Entry, indeterminate_of, weights_of, weights, entries, argument}
use Rattle.terms.specs.Term3.{put, entries_of, Ends, Differ, bound, Term3}
use Rattle.terms.proofs.Lists.{All-imply, All-both, map_same}
use Rattle.terms.proofs.Columns.{all_sampled}
use Rattle.terms.proofs.Counting.{evaluation_bound, product-bound, lookup_bound}
use Rattle.extend_answer.proofs.Accepted.{Accepted, passed}
use Rattle.terms.proofs.Term2.{term2}
use Rattle.field.proofs.Units.{element_canonical}
use Rattle.terms.proofs.Canonical.{Words, words_below, CanonicalEntry, entries_canonical}
use Rattle.terms.proofs.Denominators.{DefinedAt, all_defined}

put_own : (i : ℕ) (x : XFieldElement) (sampled : ℕ → XFieldElement) → put i x sampled i ≡ x
put_own i x sampled = rw (eq-eqb i i refl)

put_other : (i : ℕ) (x : XFieldElement) (sampled : ℕ → XFieldElement) (j : ℕ) → j ≢ i → put i x sampled j ≡ sampled j
put_other i x sampled j ne = rw (ne_eqb j i ne)

from_last : (n : ℕ) → eqb n 0 ≡ false → suc (n - 1) ≡ n
from_last n h = let ne = eqb-false n 0 h in omega arith

-- what an extension of one table gives
record Gives (c : Column) (sampled : ℕ → XFieldElement) (x : XFieldElement) (main : List ℕ) (v : XFieldElement) : Type 0 where
  main_words : Words main
  canonical : Canonical x
  defined : DefinedAt (kind_of c) x (entries_of c sampled main)
  value : argument (kind_of c) x (entries_of c sampled main) ≡ v

module _ (c : Column) (sampled : ℕ → XFieldElement) (x : XFieldElement) (main : List ℕ) (v : XFieldElement) (ends : Ends c sampled x main v) where
  own : challenge_at ends.challenges (indeterminate_of c) ≡ x
  own = ends.given (indeterminate_of c) (all_sampled c).own_sampled ∙ put_own (indeterminate_of c) x sampled

  -- so that the entries are the same for every x
  same_weights : weights c ends.challenges ≡ map sampled (weights_of c)
  same_weights =
      map_same (challenge_at ends.challenges) sampled (weights_of c)
      (All-imply (λ j. (j < SAMPLE-COUNT) × (j ≢ indeterminate_of c)) (λ j. challenge_at ends.challenges j ≡ sampled j)
      (λ j h. ends.given j h.0 ∙ put_other (indeterminate_of c) x sampled j h.1) (weights_of c)
      (All-both (λ j. j < SAMPLE-COUNT) (λ j. j ≢ indeterminate_of c) (weights_of c) (all_sampled c).weights_sampled (all_sampled c).weights_other))

  tests : Accepted main ends.challenges ends.chunk ends.aux ends.work
  tests = passed main ends.challenges ends.chunk ends.aux ends.work ends.accepted

  -- the column's argument over all entries
  last_cell_lem : argument (kind_of c) (challenge_at ends.challenges (indeterminate_of c)) (entries c (weights c ends.challenges) main (suc (rows main - 1)))
      ≡ argument (kind_of c) x (entries_of c sampled main)
  last_cell_lem =
      ap (λ y. argument (kind_of c) y (entries c (weights c ends.challenges) main (suc (rows main - 1)))) own
      ∙ ap (λ ws. argument (kind_of c) x (entries c ws main (suc (rows main - 1)))) same_weights
      ∙ ap (λ n. argument (kind_of c) x (entries c (map sampled (weights_of c)) main n)) (from_last (rows main) tests.some_row)

  gives : Gives c sampled x main v
  gives =
      record {
        main_words = words_below main tests.main_below;
        canonical = subst Canonical own (element_canonical ends.challenges tests.challenges_below (indeterminate_of c * 3));
        defined = subst (λ ws. DefinedAt (kind_of c) x (entries c ws main (rows main))) same_weights
            (subst (λ y. DefinedAt (kind_of c) y (entries c (weights c ends.challenges) main (rows main))) own
            (all_defined main ends.challenges c tests.no_zero));
        value = sym last_cell_lem
            ∙ sym (term2.cells main ends.challenges ends.chunk ends.aux ends.work ends.accepted c (rows main - 1) within)
            ∙ ends.last;
      }
    where
      within : rows main - 1 < rows main
      within = let e = from_last (rows main) tests.some_row in omega arith

-- both defined, and with the same cell
abbrev Agree : (k : Kind) → List (Entry k) → List (Entry k) → XFieldElement → Type 0
Agree k es fs x = DefinedAt k x es × DefinedAt k x fs × (argument k x es ≡ argument k x fs)

bounded : (k : Kind) (es fs : List (Entry k)) → All (CanonicalEntry k) es → All (CanonicalEntry k) fs → Differ k es fs
    → (xs : List XFieldElement) → All Canonical xs → Distinct xs → All (Agree k es fs) xs
    → length xs ≤ bound k (length es) (length fs)
bounded evaluation es fs ce cf ne xs cx d z =
    evaluation_bound es fs ce cf ne xs cx d
    (All-imply (Agree evaluation es fs) (λ x. evaluation_argument x es ≡ evaluation_argument x fs) (λ x h. h.2) xs z)
bounded product es fs ce cf ne xs cx d z =
    product-bound es fs ce cf ne xs cx d
    (All-imply (Agree product es fs) (λ x. permutation_argument x es ≡ permutation_argument x fs) (λ x h. h.2) xs z)
bounded lookup es fs ce cf ne xs cx d z = lookup_bound es fs ce cf ne xs cx d z

module _ (c : Column) (sampled : ℕ → XFieldElement) (main₁ main₂ : List ℕ) where
  abbrev Both : XFieldElement → Type 0
  Both x = (v : XFieldElement) × Ends c sampled x main₁ v × Ends c sampled x main₂ v

  first : (x : XFieldElement) (b : Both x) → Gives c sampled x main₁ b.0
  first x b = gives c sampled x main₁ b.0 b.1

  second : (x : XFieldElement) (b : Both x) → Gives c sampled x main₂ b.0
  second x b = gives c sampled x main₂ b.0 b.2

  agree : (x : XFieldElement) → Both x → Agree (kind_of c) (entries_of c sampled main₁) (entries_of c sampled main₂) x
  agree x b = ((first x b).defined, (second x b).defined, (first x b).value ∙ sym (second x b).value)

pub term3 : Term3
term3 c sampled main₁ main₂ ne [] d z = omega arith
term3 c sampled main₁ main₂ ne (x ∷ xs) d z =
    bounded (kind_of c) (entries_of c sampled main₁) (entries_of c sampled main₂)
    (entries_canonical c (map sampled (weights_of c)) main₁ (first c sampled main₁ main₂ x z.0).main_words (rows main₁))
    (entries_canonical c (map sampled (weights_of c)) main₂ (second c sampled main₁ main₂ x z.0).main_words (rows main₂))
    ne (x ∷ xs)
    (All-imply (Both c sampled main₁ main₂) Canonical (λ y b. (first c sampled main₁ main₂ y b).canonical) (x ∷ xs) z)
    d
    (All-imply (Both c sampled main₁ main₂) (Agree (kind_of c) (entries_of c sampled main₁) (entries_of c sampled main₂)) (agree c sampled main₁ main₂) (x ∷ xs) z)
