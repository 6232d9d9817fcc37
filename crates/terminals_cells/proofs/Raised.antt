-- Rows one after the other, with row 1's multiplicity grown.
use mathlib.Core.Path.{◌≡◌, refl, sym, ap, ◌∙◌}
use mathlib.Core.Bool.{Bool, true, false, cond}
use mathlib.Core.List.{List, [], append-nil}
use Prim.Native.Nat.{ℕ, ◌+◌, ◌*◌, ◌≤◌}
use native.Mathlib.Omega.{arith}
use lib.Dec.{eqb}
use lib.ListN.{length, get_or, set, length-set}
use lib.Seq.{get_or-set_same, set-set}
use borrow.Author.Tests.{ne_eqb}
use Rattle.algebra.specs.Modulus.{plus}
use Rattle.table_rows.specs.Rows.{rows_from}
use Rattle.table_rows.specs.Writes.{raised}
use Rattle.table_rows.proofs.Rows.{Whole, same_rows, read_in_row, set_in_row}

abbrev raised_row : List ℕ → ℕ → List ℕ
raised_row row n = set row 38 (plus (get_or row 38 0) n)

abbrev pub raised_rows : (ℕ → List ℕ) → ℕ → ℕ → List ℕ
raised_rows f n c = cond (eqb c 1) (raised_row (f c) n) (f c)

-- rows other than row 1
pub not_raised : (f : ℕ → List ℕ) (n c : ℕ) → (c ≡ 1 → ⊥) → raised_rows f n c ≡ f c
not_raised f n c h = rw (ne_eqb c 1 h)

length_by : (f : ℕ → List ℕ) (n c : ℕ) (b : Bool) → length (cond b (raised_row (f c) n) (f c)) ≡ length (f c)
length_by f n c true = length-set (f c) 38 (plus (get_or (f c) 38 0) n)
length_by f n c false = refl

pub raised_whole : (f : ℕ → List ℕ) (n rows : ℕ) → Whole 39 f 0 rows → Whole 39 (raised_rows f n) 0 rows
raised_whole f n rows whole k l h = length_by f n k (eqb k 1) ∙ whole k l h

pub raised_rows_lem : (f : ℕ → List ℕ) (n rows : ℕ) → Whole 39 f 0 rows → 2 ≤ rows → raised (rows_from f 0 rows) 1 n ≡ rows_from (raised_rows f n) 0 rows
raised_rows_lem f n rows whole two =
    let table = rows_from f 0 rows in
    let e : get_or table (1 * 39 + 38) 0 ≡ get_or (f 1) 38 0 = ap (λ l. get_or l (1 * 39 + 38) 0) (sym (append-nil table)) ∙ read_in_row 39 f rows [] whole 1 38 (omega arith) (omega arith) in
    ap (λ (v : ℕ). set table (1 * 39 + 38) (plus v n)) e
    ∙ ap (λ l. set l (1 * 39 + 38) (plus (get_or (f 1) 38 0) n)) (sym (append-nil table))
    ∙ set_in_row 39 f rows [] whole 1 38 (omega arith) (omega arith) (raised_rows f n) (plus (get_or (f 1) 38 0) n) refl (λ k h. not_raised f n k (λ q. h (sym q)))
    ∙ append-nil (rows_from (raised_rows f n) 0 rows)

-- grown twice
module _ (f : ℕ → List ℕ) (a b : ℕ) where
  twice_by : (c : ℕ) → length (f c) ≡ 39 → (one : Bool)
      → cond one (raised_row (cond one (raised_row (f c) a) (f c)) b) (cond one (raised_row (f c) a) (f c)) ≡ cond one (raised_row (f c) (a + b)) (f c)
  twice_by c e true =
      let x = get_or (f c) 38 0 in
      let again = get_or-set_same (f c) 38 (plus x a) 0 (omega (arith, e)) in
      let added : plus (plus x a) b ≡ plus x (a + b) = omega arith in
      set-set (f c) 38 (plus x a) _ ∙ ap (λ (v : ℕ). set (f c) 38 v) (ap (λ (v : ℕ). plus v b) again ∙ added)
  twice_by c e false = refl

  pub raised_twice : (rows : ℕ) → Whole 39 f 0 rows → 2 ≤ rows → raised (raised (rows_from f 0 rows) 1 a) 1 b ≡ rows_from (raised_rows f (a + b)) 0 rows
  raised_twice rows whole two =
      ap (λ t. raised t 1 b) (raised_rows_lem f a rows whole two)
      ∙ raised_rows_lem (raised_rows f a) b rows (raised_whole f a rows whole) two
      ∙ same_rows (raised_rows (raised_rows f a) b) (raised_rows f (a + b)) 0 rows (λ k l h. twice_by k (whole k l h) (eqb k 1))
