-- Counting a difference makes its row's multiplicity one more, and leaves the other rows.
use mathlib.Core.Path.{◌≡◌, refl, sym, ◌∙◌}
use mathlib.Core.Bool.{true, cond}
use mathlib.Core.List.{List, [], ◌∷◌, ◌++◌}
use Prim.Native.Nat.{ℕ, ◌+◌, ◌-◌, ◌*◌, ◌%◌, ◌<◌}
use native.Mathlib.Nat.{zero-add, add_assoc, add-zero, sub-zero, mod-eq_of_lt}
use native.Mathlib.Omega.{arith}
use lib.Dec.{eqb}
use lib.ListN.{length, drop, get_or, length-set}
use lib.Seq.{get_or-set_same, set-set}
use borrow.Author.Tests.{eq-eqb, ne_eqb}
use Rattle.algebra.specs.Modulus.{p}
use Rattle.table_rows.specs.Rows.{rows, row_at, rows_from}
use Rattle.table_rows.specs.Writes.{with_rows, raised}
use Rattle.table_fill.specs.Counted.{counted}
use Rattle.table_fill.specs.Fill.{count, multiplicity, all_under, filled_row, filled}
use Rattle.table_fill.proofs.Accepted.{Accepted}
use Rattle.table_rows.proofs.Rows.{Whole, length-row, same_rows, read_in_row, set_in_row}
use Rattle.table_fill.proofs.Differences.{first_under, one_at_most, count-within}

module _ (trace table : List ℕ) where
  pub filled_same : (m k : ℕ → ℕ) → ((c : ℕ) → m c ≡ k c) → filled trace m table ≡ filled trace k table
  unfolding filled
  filled_same m k h = rw (same_rows (filled_row trace m) (filled_row trace k) 0 (rows trace) (λ c l n. rw (h c)))

  pub rows_replaced : (m : ℕ → ℕ) → length trace % 39 ≡ 0 → with_rows 39 table (filled_row trace m) 0 (rows trace - 0) ≡ filled trace m table
  unfolding filled with_rows
  rows_replaced m h =
      let e : (0 + (rows trace - 0)) * 39 ≡ length trace = omega arith in
      rw (e, sub-zero)

  whole : (m : ℕ → ℕ) → Whole 39 (filled_row trace m) 0 (rows trace)
  whole m k l h = length-set (row_at trace k) 38 (m k) ∙ length-row trace k (omega arith)

  one_more : (m : ℕ → ℕ) (d : ℕ) → d < rows trace → m d + 1 < p → raised (filled trace m table) d 1 ≡ filled trace (λ c. m c + cond (eqb d c) 1 0) table
  unfolding filled
  one_more m d h l =
      let row = filled_row trace m in
      let rest = drop (length trace) table in
      let len = length-row trace d (omega arith) in
      let e : get_or (rows_from row 0 (rows trace) ++ rest) (d * 39 + 38) 0 ≡ m d = read_in_row 39 row (rows trace) rest (whole m) d 38 h (omega arith) ∙ get_or-set_same (row_at trace d) 38 (m d) 0 (omega arith) in
      rw (e, mod-eq_of_lt l)
      (set_in_row 39 row (rows trace) rest (whole m) d 38 h (omega arith) (filled_row trace (λ c. m c + cond (eqb d c) 1 0)) (m d + 1)
      (rw (set-set, eq-eqb d d refl))
      (λ k g. rw (ne_eqb d k g, add-zero)))

  pub counts : (ds : List ℕ) (m : ℕ → ℕ) → all_under (rows trace) ds ≡ true → ((c : ℕ) → m c + length ds < p) → counted ds (filled trace m table) ≡ filled trace (λ c. m c + count c ds) table
  unfolding counted count
  counts [] m e h = filled_same m (λ c. m c + 0) (λ c. sym (add-zero (m c)))
  counts (d ∷ ds) m e h =
      let f = first_under (rows trace) d ds e in
      rw (one_more m d f.0 (omega (arith, h d)))
      (counts ds (λ c. m c + cond (eqb d c) 1 0) f.1 (λ c. omega (arith, h c, one_at_most (eqb d c)))
      ∙ filled_same (λ c. m c + cond (eqb d c) 1 0 + count c ds) (λ c. m c + (cond (eqb d c) 1 0 + count c ds)) (λ c. add_assoc (m c) (cond (eqb d c) 1 0) (count c ds)))

-- the three lists, one after the other
pub all_counted : (trace op_stack ram jump_stack table : List ℕ) → Accepted trace op_stack ram jump_stack table → counted jump_stack (counted ram (counted op_stack (filled trace (λ c. 0) table))) ≡ filled trace (multiplicity op_stack ram jump_stack) table
unfolding multiplicity
all_counted trace op_stack ram jump_stack table a =
    rw (
      counts trace table op_stack (λ c. 0) a.op_stack_under (λ c. omega arith),
      counts trace table ram (λ c. 0 + count c op_stack) a.ram_under (λ c. omega (arith, count-within c op_stack)),
      counts trace table jump_stack (λ c. 0 + count c op_stack + count c ram) a.jump_stack_under (λ c. omega (arith, count-within c op_stack, count-within c ram)),
    )
    (filled_same trace table (λ c. 0 + count c op_stack + count c ram + count c jump_stack) (multiplicity op_stack ram jump_stack) (λ c. rw zero-add))
