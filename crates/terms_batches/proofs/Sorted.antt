-- A list sorted: the same bag, not descending; and a list that does not descend stays as it is, and is the only one of its bag.
use mathlib.Core.Path.{◌≡◌, refl, sym, ap, ◌∙◌}
use mathlib.Core.Bool.{Bool, true, false, cond, ◌&&◌}
use mathlib.Core.List.{List, [], ◌∷◌}
use Prim.Native.Nat.{ℕ, zero, suc, ◌+◌, ◌≤◌, ◌<◌}
use native.Mathlib.Omega.{arith}
use lib.Dec.{eqb, leb, ltb}
use borrow.Author.Tests.{eq-eqb, ne_eqb, leb-true, leb-false, le-leb}
use Rattle.algebra.specs.Modulus.{p}
use Rattle.field_base.specs.Words.{all_below}
use Rattle.table_fill.specs.Fill.{count}
use Rattle.batch_sorted.specs.Sorted.{inserted, sorted}
use Rattle.terms_batches.specs.Written.{SameBag, NotDescending, SortedList}

-- what two neighbours that change places do not change
module _ {X : Type 0} (F : List ℕ → X) (swap : (v w : ℕ) (ws : List ℕ) → F (v ∷ w ∷ ws) ≡ F (w ∷ v ∷ ws)) (under : (v : ℕ) (us ws : List ℕ) → F us ≡ F ws → F (v ∷ us) ≡ F (v ∷ ws)) where
  inserted_by : (w v : ℕ) (vs : List ℕ) (low : Bool) → F (inserted w vs) ≡ F (w ∷ vs) → F (cond low (w ∷ v ∷ vs) (v ∷ inserted w vs)) ≡ F (w ∷ v ∷ vs)
  inserted_by w v vs true h = refl
  inserted_by w v vs false h = under v (inserted w vs) (w ∷ vs) h ∙ swap v w vs

  inserted_alike : (w : ℕ) (ws : List ℕ) → F (inserted w ws) ≡ F (w ∷ ws)
  unfolding inserted
  inserted_alike w [] = refl
  inserted_alike w (v ∷ vs) = inserted_by w v vs (leb w v) (inserted_alike w vs)

  pub sorted_alike : (ws : List ℕ) → F (sorted ws) ≡ F ws
  unfolding sorted
  sorted_alike [] = refl
  sorted_alike (w ∷ ws) = inserted_alike w (sorted ws) ∙ under w (sorted ws) ws (sorted_alike ws)

same_count : (c : ℕ) (ws : List ℕ) → count c (sorted ws) ≡ count c ws
unfolding count
same_count c = sorted_alike (count c) (λ v w ws. omega arith) (λ v us ws e. ap (◌+◌ (cond (eqb v c) 1 0)) e)

and_swap : (a b c : Bool) → (a && (b && c)) ≡ (b && (a && c))
and_swap true b c = refl
and_swap false true c = refl
and_swap false false c = refl

pub below_sorted : (ws : List ℕ) → all_below (sorted ws) ≡ all_below ws
unfolding all_below
below_sorted = sorted_alike all_below (λ v w ws. and_swap (ltb v p) (ltb w p) (all_below ws)) (λ v us ws e. rw e)

-- each word is at least the one before it, and the first at least m
abbrev pub Ascending : ℕ → List ℕ → Type 0
Ascending m [] = Unit
Ascending m (w ∷ ws) = (m ≤ w) × Ascending w ws

ascends_by : (m w v : ℕ) (vs : List ℕ) (low : Bool) → leb w v ≡ low → m ≤ w → Ascending m (v ∷ vs) → (v ≤ w → Ascending v (inserted w vs)) → Ascending m (cond low (w ∷ v ∷ vs) (v ∷ inserted w vs))
ascends_by m w v vs true e l a h = (l, (leb-true w v e, a.1))
ascends_by m w v vs false e l a h = let u = leb-false w v e in (a.0, h (omega arith))

inserted_ascends : (m w : ℕ) (ws : List ℕ) → m ≤ w → Ascending m ws → Ascending m (inserted w ws)
unfolding inserted
inserted_ascends m w [] l a = (l, tt)
inserted_ascends m w (v ∷ vs) l a = ascends_by m w v vs (leb w v) refl l a (λ u. inserted_ascends v w vs u a.1)

pub sorted_ascends : (ws : List ℕ) → Ascending 0 (sorted ws)
unfolding sorted
sorted_ascends [] = tt
sorted_ascends (w ∷ ws) = inserted_ascends 0 w (sorted ws) (omega arith) (sorted_ascends ws)

not_descending : (m : ℕ) (ws : List ℕ) → Ascending m ws → NotDescending ws
not_descending m [] a i l = absurd (omega arith)
not_descending m (w ∷ []) a i l = absurd (omega arith)
not_descending m (w ∷ v ∷ ws) a zero l = a.1.0
not_descending m (w ∷ v ∷ ws) a (suc i) l = not_descending w (v ∷ ws) a.1 i (omega arith)

pub sorted_list : SortedList
sorted_list ws = ((λ c. same_count c ws), not_descending 0 (sorted ws) (sorted_ascends ws))

inserted_first : (w : ℕ) (ws : List ℕ) → Ascending w ws → inserted w ws ≡ w ∷ ws
unfolding inserted
inserted_first w [] a = refl
inserted_first w (v ∷ vs) a = rw (le-leb w v a.0)

pub sorted_is : (m : ℕ) (ws : List ℕ) → Ascending m ws → sorted ws ≡ ws
unfolding sorted
sorted_is m [] a = refl
sorted_is m (w ∷ ws) a = rw (sorted_is w ws a.1) (inserted_first w ws a.1)

pub sorted_again : (ws : List ℕ) → sorted (sorted ws) ≡ sorted ws
sorted_again ws = sorted_is 0 (sorted ws) (sorted_ascends ws)

none_below : (c m : ℕ) (ws : List ℕ) → c < m → Ascending m ws → count c ws ≡ 0
unfolding count
none_below c m [] l a = refl
none_below c m (w ∷ ws) l a = let h = none_below c w ws (omega arith) a.1 in rw (ne_eqb w c (λ e. omega arith)) (omega arith)

counted : (w : ℕ) (ws : List ℕ) → count w (w ∷ ws) ≡ 1 + count w ws
unfolding count
counted w ws = rw (eq-eqb w w refl)

-- the first word is the least
least : (u v : ℕ) (us vs : List ℕ) (low : Bool) → leb v u ≡ low → Ascending v vs → count u (u ∷ us) ≡ count u (v ∷ vs) → v ≤ u
least u v us vs true e a same = leb-true v u e
least u v us vs false e a same = let l = leb-false v u e in absurd (omega (arith, same, counted u us, none_below u v (v ∷ vs) (omega arith) (omega arith, a)))

-- a list that does not descend is determined by its bag
only : (m n : ℕ) (us vs : List ℕ) → Ascending m us → Ascending n vs → SameBag us vs → us ≡ vs
unfolding count
only m n [] [] a b same = refl
only m n [] (v ∷ vs) a b same = absurd (omega (arith, same v, counted v vs))
only m n (u ∷ us) [] a b same = absurd (omega (arith, same u, counted u us))
only m n (u ∷ us) (v ∷ vs) a b same =
    let l = least u v us vs (leb v u) refl b.1 (same u) in
    let g = least v u vs us (leb u v) refl a.1 (sym (same v)) in
    let e : u ≡ v = omega arith in
    rw (e, only u v us vs a.1 b.1 (λ c. let s = rw e at (same c) in omega arith))

pub sorted_only : (us vs : List ℕ) → SameBag us vs → sorted us ≡ sorted vs
sorted_only us vs same = only 0 0 (sorted us) (sorted vs) (sorted_ascends us) (sorted_ascends vs) (λ c. same_count c us ∙ same c ∙ sym (same_count c vs))
