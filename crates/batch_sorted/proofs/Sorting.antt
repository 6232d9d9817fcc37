-- A list sorted has the same words and ascends; and it is the only list that has and does.
use mathlib.Core.Path.{◌≡◌, refl, sym, ap, ◌∙◌}
use mathlib.Core.Bool.{Bool, true, false, cond}
use mathlib.Core.List.{List, [], ◌∷◌}
use Prim.Native.Nat.{ℕ, zero, suc, ◌+◌, ◌≤◌, ◌<◌}
use native.Mathlib.Omega.{arith}
use lib.Dec.{eqb, leb}
use lib.ListN.{length, get_or}
use borrow.Author.Tests.{eq-eqb, ne_eqb, leb-true, leb-false}
use Rattle.std.specs.List.{sum_by}
use Rattle.std.specs.List.Sorted.{IsPermutation, IsSorted}
use Rattle.std.specs.Ordering.{nat_cmp}
use Rattle.std.proofs.lemmas.List.Sums.{sum_by-cons}
use Rattle.std.proofs.lemmas.List.Sorted.{sum_by-IsPermutation, IsNonDecreasingBy-from_sort}
use Rattle.batch_sorted.specs.Sorted.{inserted, sorted}

-- what two neighbours that change places do not change
module _ {X : Type 0} (F : List ℕ → X) (swap : (v w : ℕ) (ws : List ℕ) → F (v ∷ w ∷ ws) ≡ F (w ∷ v ∷ ws)) (under : (v : ℕ) (us ws : List ℕ) → F us ≡ F ws → F (v ∷ us) ≡ F (v ∷ ws)) where
  inserted_by : (w v : ℕ) (vs : List ℕ) (low : Bool) → F (inserted w vs) ≡ F (w ∷ vs) → F (cond low (w ∷ v ∷ vs) (v ∷ inserted w vs)) ≡ F (w ∷ v ∷ vs)
  inserted_by w v vs true h = refl
  inserted_by w v vs false h = under v (inserted w vs) (w ∷ vs) h ∙ swap v w vs

  inserted_alike : (w : ℕ) (ws : List ℕ) → F (inserted w ws) ≡ F (w ∷ ws)
  unfolding inserted
  inserted_alike w [] = refl
  inserted_alike w (v ∷ vs) = inserted_by w v vs (leb w v) (inserted_alike w vs)

  pub sorted_alike : (ws : List ℕ) → F (sorted ws) ≡ F ws
  unfolding sorted
  sorted_alike [] = refl
  sorted_alike (w ∷ ws) = inserted_alike w (sorted ws) ∙ under w (sorted ws) ws (sorted_alike ws)

-- each word is at least the one before it, and the first at least m
abbrev pub Ascending : ℕ → List ℕ → Type 0
Ascending m [] = Unit
Ascending m (w ∷ ws) = (m ≤ w) × Ascending w ws

ascends_by : (m w v : ℕ) (vs : List ℕ) (low : Bool) → leb w v ≡ low → m ≤ w → Ascending m (v ∷ vs) → (v ≤ w → Ascending v (inserted w vs)) → Ascending m (cond low (w ∷ v ∷ vs) (v ∷ inserted w vs))
ascends_by m w v vs true e l a h = (l, (leb-true w v e, a.1))
ascends_by m w v vs false e l a h = let u = leb-false w v e in (a.0, h (omega arith))

inserted_ascends : (m w : ℕ) (ws : List ℕ) → m ≤ w → Ascending m ws → Ascending m (inserted w ws)
unfolding inserted
inserted_ascends m w [] l a = (l, tt)
inserted_ascends m w (v ∷ vs) l a = ascends_by m w v vs (leb w v) refl l a (λ u. inserted_ascends v w vs u a.1)

pub sorted_ascends : (ws : List ℕ) → Ascending 0 (sorted ws)
unfolding sorted
sorted_ascends [] = tt
sorted_ascends (w ∷ ws) = inserted_ascends 0 w (sorted ws) (omega arith) (sorted_ascends ws)

-- how often a word stands there
abbrev times : ℕ → List ℕ → ℕ
times c [] = 0
times c (w ∷ ws) = cond (eqb w c) 1 0 + times c ws

summed : (c : ℕ) (ws : List ℕ) → sum_by (λ w. cond (eqb w c) 1 0) ws ≡ times c ws
summed c [] = refl
summed c (w ∷ ws) = sum_by-cons (λ v. cond (eqb v c) 1 0) w ws ∙ ap (◌+◌ (cond (eqb w c) 1 0)) (summed c ws)

same_times : (c : ℕ) (ws : List ℕ) → times c (sorted ws) ≡ times c ws
same_times c = sorted_alike (times c) (λ v w ws. omega arith) (λ v us ws e. ap (◌+◌ (cond (eqb v c) 1 0)) e)

none_below : (c m : ℕ) (ws : List ℕ) → c < m → Ascending m ws → times c ws ≡ 0
none_below c m [] l a = refl
none_below c m (w ∷ ws) l a = let h = none_below c w ws (omega arith) a.1 in rw (ne_eqb w c (λ e. omega arith)) (omega arith)

once_more : (w : ℕ) (ws : List ℕ) → times w (w ∷ ws) ≡ 1 + times w ws
once_more w ws = rw (eq-eqb w w refl)

-- the first word is the least
least : (u v : ℕ) (us vs : List ℕ) (low : Bool) → leb v u ≡ low → Ascending v vs → times u (u ∷ us) ≡ times u (v ∷ vs) → v ≤ u
least u v us vs true e a same = leb-true v u e
least u v us vs false e a same = let l = leb-false v u e in absurd (omega (arith, same, once_more u us, none_below u v (v ∷ vs) (omega arith) (omega arith, a)))

only : (m n : ℕ) (us vs : List ℕ) → Ascending m us → Ascending n vs → ((c : ℕ) → times c us ≡ times c vs) → us ≡ vs
only m n [] [] a b same = refl
only m n [] (v ∷ vs) a b same = absurd (omega (arith, same v, once_more v vs))
only m n (u ∷ us) [] a b same = absurd (omega (arith, same u, once_more u us))
only m n (u ∷ us) (v ∷ vs) a b same =
    let l = least u v us vs (leb v u) refl b.1 (same u) in
    let g = least v u vs us (leb u v) refl a.1 (sym (same v)) in
    let e : u ≡ v = omega arith in
    rw (e, only u v us vs a.1 b.1 (λ c. let s = rw e at (same c) in omega arith))

ascends : (m : ℕ) (ws : List ℕ) → ((i : ℕ) → suc i < length (m ∷ ws) → get_or (m ∷ ws) i 0 ≤ get_or (m ∷ ws) (suc i) 0) → Ascending m ws
ascends m [] h = tt
ascends m (w ∷ ws) h = (h 0 (omega arith), ascends w ws (λ i l. h (suc i) (omega arith)))

-- what std sorts
pub sorted_by_std : (ws us : List ℕ) → IsPermutation ws us → IsSorted nat_cmp us → us ≡ sorted ws
sorted_by_std ws us moved up = only 0 0 us (sorted ws) (ascends 0 us at_least) (sorted_ascends ws) same
  where
    at_least : (i : ℕ) → suc i < length (0 ∷ us) → get_or (0 ∷ us) i 0 ≤ get_or (0 ∷ us) (suc i) 0
    at_least zero l = omega arith
    at_least (suc i) l = IsNonDecreasingBy-from_sort (λ x. x) us up i (suc i) 0 (omega arith) (omega arith)

    same : (c : ℕ) → times c us ≡ times c (sorted ws)
    same c = sym (summed c us) ∙ sum_by-IsPermutation (λ w. cond (eqb w c) 1 0) ws us moved ∙ summed c ws ∙ sym (same_times c ws)
