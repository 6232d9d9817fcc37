-- What extension with slices of zeros answers, and its last row.
use mathlib.Core.Path.{◌≡◌, ap, ◌∙◌}
use mathlib.Core.Bool.{Bool, true, cond, not, ◌&&◌}
use mathlib.Core.List.{List, ◌++◌}
use Prim.Native.Nat.{ℕ, suc, ◌+◌, ◌-◌, ◌*◌, ◌≤◌}
use native.Mathlib.Omega.{arith}
use lib.Dec.{eqb}
use lib.ListN.{length, length-append}
use lib.Seq.{drop_at}
use borrow.Author.Tests.{eq-eqb, ne_eqb, eqb-false, le-leb}
use Rattle.std.specs.Prelude.{Result, Err}
use Rattle.refusal.specs.declared.Refusal.TheVariants.{SliceLength, WordNotBelowP, ZeroDenominator}
use Rattle.refusal.specs.Number.{Done, on_done}
use Rattle.refusal.specs.declared.Refusal.{Refusal}
use Rattle.field_base.specs.Words.{all_below}
use Rattle.air.specs.ChallengeId.{RECORD-WORDS}
use Rattle.table_rows.specs.Rows.{whole_rows, rows, rows_from, started_chunks}
use Rattle.table_rows.proofs.Rows.{one_more_row, length-rows}
use Rattle.column_entries.specs.Columns.{running, cell}
use Rattle.column_entries.specs.AuxRow.{aux_row}
use Rattle.column_entries.specs.Denominators.{zero_denominator}
use Rattle.column_entries.proofs.AuxRow as row
use Rattle.extend_table.specs.Extended.{cells_of_row, extended}
use Rattle.extend_answer.specs.Answer.{extend_answer}
use Rattle.extend_answer.proofs.Accepted.{passed}
use Rattle.extend.specs.Extend.{extend_aux}
use Rattle.batch.specs.Lent.{zeros}
use Rattle.terminals_extended.specs.Extended.{last_row, extended_answer, extended_cells}
use Rattle.terminals_extended.proofs.Zeros.{length-zeros}

-- a table of whole rows, and not of none
pub record Table (main : List ℕ) : Type 0 where
  pub whole : whole_rows main ≡ true
  pub some : 1 ≤ rows main

-- past 3 and 5, which it does not answer
abbrev pub by_tests : Bool → Bool → Bool → Result (Unit {0}) Refusal
by_tests record-whole below zero =
    cond (not record-whole) (Err SliceLength) (cond (not below) (Err WordNotBelowP) (cond zero (Err ZeroDenominator) Done))

module _ (main challenges : List ℕ) (table : Table main) where
  pub answer : rows main ≤ 4194304 → extended_answer main challenges ≡ by_tests (eqb (length challenges) RECORD-WORDS) (all_below main && all_below challenges) (zero_denominator main challenges)
  unfolding extended_answer extend_answer
  answer short =
      rw (
        table.whole,
        eq-eqb (length (zeros (rows main * 33))) (rows main * 33) (length-zeros (rows main * 33)),
        ne_eqb (rows main) 0 (λ e. omega (arith, e, table.some)),
        le-leb (rows main) 4194304 short,
        eq-eqb (length (zeros (started_chunks (rows main) 4 * 6))) (started_chunks (rows main) 4 * 6) (length-zeros (started_chunks (rows main) 4 * 6)),
      )

  last_of : (f : ℕ → List ℕ) → ((k : ℕ) → length (f k) ≡ 33) → (n : ℕ) → last_row (rows_from f 0 (n + 1)) ≡ f n
  last_of f whole n =
      let front = rows_from f 0 n in
      let len = length-rows 33 f 0 n (λ k l h. whole k) in
      ap last_row (one_more_row f n)
      ∙ drop_at front (f n) (length (front ++ f n) - 33) (omega (arith, len, length-append front (f n), whole n))

  pub cells : extended_answer main challenges ≡ Done → extended_cells main challenges ≡ aux_row (λ c. running c challenges main (rows main))
  unfolding extended_answer extended_cells extend_aux extended
  cells done =
      let n = rows main - 1 in
      let e : rows main ≡ n + 1 = omega (arith, table.some) in
      let s : suc n ≡ rows main = omega (arith, table.some) in
      ap (λ a. last_row (on_done a (extended main challenges) (zeros (rows main * 33)))) done
      ∙ ap (λ (k : ℕ). last_row (rows_from (cells_of_row challenges main) 0 k)) e
      ∙ last_of (cells_of_row challenges main) (λ k. row.length-row (λ c. cell c challenges main k)) n
      ∙ ap (λ (k : ℕ). aux_row (λ c. running c challenges main k)) s

-- where extension is done, its last row has 33 words
pub cells_long : (main challenges : List ℕ) → extended_answer main challenges ≡ Done → length (extended_cells main challenges) ≡ 33
unfolding extended_answer
cells_long main challenges done =
    let accepted = passed main challenges 4 _ _ done in
    let some = eqb-false (rows main) 0 accepted.some_row in
    ap length (cells main challenges (record { whole = accepted.fitting.whole; some = omega (arith, some) }) done) ∙ row.length-row (λ c. running c challenges main (rows main))
