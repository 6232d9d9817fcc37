-- Differences below a number of rows, and how often each stands in a list.
use mathlib.Core.Path.{◌≡◌, refl, ap}
use mathlib.Core.Bool.{Bool, true, false, cond, ◌&&◌}
use mathlib.Core.List.{List, [], ◌∷◌}
use Prim.Native.Nat.{ℕ, ◌≤◌, ◌<◌}
use native.Mathlib.Omega.{arith}
use lib.Dec.{eqb, ltb}
use lib.ListN.{length, get_or}
use Rattle.std.specs.List.{list_all}
use Rattle.std.proofs.lemmas.List.Recursion.{and_at}
use borrow.Author.Tests.{ltb-true, lt-ltb}
use Rattle.field_base.proofs.Below.{and-true}
use Rattle.table_fill.specs.Fill.{count, all_under}

module _ (n : ℕ) where
  pub first_under : (d : ℕ) (ds : List ℕ) → all_under n (d ∷ ds) ≡ true → (d < n) × (all_under n ds ≡ true)
  unfolding all_under
  first_under d ds e = let h = and-true (ltb d n) (all_under n ds) e in (ltb-true d n h.0, h.1)

  pub under_is_all : (ds : List ℕ) → list_all (λ d. ltb d n) ds ≡ all_under n ds
  unfolding all_under
  under_is_all [] = refl
  under_is_all (d ∷ ds) = ap (λ b. ltb d n && b) (under_is_all ds)

  pub under_at : (ds : List ℕ) (i : ℕ) → i < length ds → all_under n ds ≡ true → get_or ds i 0 < n
  unfolding all_under
  under_at ds i h e = ltb-true (get_or ds i 0) n (and_at (all_under n) (λ d. ltb d n) refl (λ _ _. refl) ds i 0 h e)

  pub under_more : (m : ℕ) → n ≤ m → (ds : List ℕ) → all_under n ds ≡ true → all_under m ds ≡ true
  unfolding all_under
  under_more m h [] e = refl
  under_more m h (d ∷ ds) e =
      let f = first_under d ds e in
      rw (lt-ltb d m (omega arith), under_more m h ds f.1)

pub one_at_most : (b : Bool) → cond b 1 0 ≤ 1
one_at_most true = omega arith
one_at_most false = omega arith

pub count-within : (c : ℕ) (ds : List ℕ) → count c ds ≤ length ds
unfolding count
count-within c [] = omega arith
count-within c (d ∷ ds) = omega (arith, count-within c ds, one_at_most (eqb d c))
