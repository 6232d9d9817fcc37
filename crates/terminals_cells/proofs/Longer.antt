-- A table that goes on with zeros: its rows, and what fill makes of it.
use mathlib.Core.Path.{◌≡◌, ap, ◌∙◌}
use mathlib.Core.Bool.{true}
use mathlib.Core.List.{List, ◌++◌, append-nil}
use Prim.Native.Nat.{ℕ, suc, ◌+◌, ◌-◌, ◌*◌, ◌%◌, ◌≤◌}
use native.Mathlib.Omega.{arith}
use lib.ListN.{length, take, drop, replicate, length-append, length-drop}
use borrow.Author.Tests.{eqb-true, eq-eqb}
use Rattle.std.proofs.lemmas.List.{take-append-le, drop-append-le, replicate-append-replicate}
use Rattle.table_rows.specs.Rows.{whole_rows, rows, row_at}
use Rattle.batch.specs.Lent.{zeros}
use Rattle.terminals_extended.proofs.Zeros.{take-zeros, length-zeros}
use Rattle.terminals_cells.specs.Kept.{longer}

-- zeros as far as the rows at hand go, and zeros behind them
pub longer_lent : (kept height : ℕ) → kept ≤ 34 → kept ≤ height → longer height (take (kept * 39) (replicate 1326 0)) ≡ zeros (height * 39)
unfolding longer zeros
longer_lent kept height few within =
    let n : rows (zeros (kept * 39)) ≡ kept = omega (arith, length-zeros (kept * 39)) in
    let e : kept * 39 + (height - kept) * 39 ≡ height * 39 = omega arith in
    ap (longer height) (take-zeros (kept * 39) 1326 (omega arith))
    ∙ ap (λ (k : ℕ). zeros (kept * 39) ++ zeros ((height - k) * 39)) n
    ∙ replicate-append-replicate (kept * 39) ((height - kept) * 39) 0
    ∙ ap zeros e

pub row_within : (table zs : List ℕ) (c : ℕ) → suc c * 39 ≤ length table → row_at (table ++ zs) c ≡ row_at table c
row_within table zs c h = ap (take 39) (drop-append-le (c * 39) table zs (omega arith)) ∙ take-append-le 39 (drop (c * 39) table) zs (omega (arith, length-drop (c * 39) table))

module _ (height : ℕ) (table : List ℕ) (whole : whole_rows table ≡ true) (within : rows table ≤ height) where
  pub length-table : length table ≡ rows table * 39
  length-table = let e = eqb-true (length table % 39) 0 whole in omega (arith, e)

  pub longer_length : length (longer height table) ≡ height * 39
  unfolding longer
  longer_length = length-append table (zeros ((height - rows table) * 39)) ∙ omega (arith, length-table, length-zeros ((height - rows table) * 39))

  pub longer_rows : rows (longer height table) ≡ height
  longer_rows = omega (arith, longer_length)

  pub longer_whole : whole_rows (longer height table) ≡ true
  longer_whole = eq-eqb (length (longer height table) % 39) 0 (omega (arith, longer_length))

-- nothing is added where all rows are at hand
pub longer_same : (table : List ℕ) → longer (rows table) table ≡ table
unfolding longer zeros
longer_same table = let e : (rows table - rows table) * 39 ≡ 0 = omega arith in ap (λ (n : ℕ). table ++ replicate n 0) e ∙ append-nil table
