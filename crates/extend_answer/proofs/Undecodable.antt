-- A loop over the rows, where one that does not decode decides and one that does leaves the others to.
use mathlib.Core.Path.{◌≡◌, refl, sym, ap, ◌∙◌}
use mathlib.Core.Bool.{true, false, ◌&&◌, and_assoc}
use mathlib.Core.List.{List, [], ◌∷◌, ◌++◌}
use Prim.Native.Nat.{ℕ, suc, ◌+◌, ◌-◌, ◌*◌, ◌≤◌, ◌<◌}
use native.Mathlib.Omega.{arith}
use lib.Dec.{ltb}
use lib.ListN.{drop, take-append-drop}
use lib.Seq.{drop-drop}
use Rattle.algebra.specs.Modulus.{p}
use Rattle.field_base.specs.Words.{all_below}
use Rattle.table_rows.specs.Rows.{row_at}
use Rattle.column_entries.specs.Row.{instruction_of}
use Rattle.extend_answer.specs.Strict.{is_read, undecodable_from}

-- a row and what follows it
row_and_rest : (main : List ℕ) (c : ℕ) → drop (c * 39) main ≡ row_at main c ++ drop ((c + 1) * 39) main
row_and_rest main c =
    let e : c * 39 + 39 ≡ (c + 1) * 39 = omega arith in
    sym (take-append-drop 39 (drop (c * 39) main)) ∙ ap (λ l. row_at main c ++ l) (drop-drop 39 (c * 39) main ∙ ap (λ n. drop n main) e)

both_below : (us vs : List ℕ) → all_below (us ++ vs) ≡ (all_below us && all_below vs)
unfolding all_below
both_below [] vs = refl
both_below (u ∷ us) vs = ap (λ b. ltb u p && b) (both_below us vs) ∙ sym (and_assoc (ltb u p) (all_below us) (all_below vs))

module _ (main : List ℕ) (c n : ℕ) where
  pub row_fails : c < n → is_read (instruction_of (row_at main c)) ≡ false → undecodable_from main c (n - c) ≡ true
  unfolding undecodable_from
  row_fails h r =
      let e : n - c ≡ suc (n - suc c) = omega arith in
      ap (undecodable_from main c) e ∙ rw r

  pub row_decodes : c < n → is_read (instruction_of (row_at main c)) ≡ true → undecodable_from main c (n - c) ≡ undecodable_from main (c + 1) (n - (c + 1))
  unfolding undecodable_from
  row_decodes h r =
      let e : n - c ≡ suc (n - (c + 1)) = omega arith in
      let f : suc c ≡ c + 1 = omega arith in
      ap (undecodable_from main c) e ∙ rw r (ap (λ k. undecodable_from main k (n - (c + 1))) f)

  pub row_not_below : all_below (row_at main c) ≡ false → all_below (drop (c * 39) main) ≡ false
  row_not_below e = ap all_below (row_and_rest main c) ∙ both_below (row_at main c) (drop ((c + 1) * 39) main) ∙ rw e

  pub row_below : all_below (row_at main c) ≡ true → all_below (drop (c * 39) main) ≡ all_below (drop ((c + 1) * 39) main)
  row_below e = ap all_below (row_and_rest main c) ∙ both_below (row_at main c) (drop ((c + 1) * 39) main) ∙ rw e

  pub no_row_left : n ≤ c → undecodable_from main c (n - c) ≡ false
  unfolding undecodable_from
  no_row_left h = let e : n - c ≡ 0 = omega arith in ap (undecodable_from main c) e
