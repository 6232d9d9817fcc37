-- The walk through the padding that a table goes on with ends on the last row of its extension.
use mathlib.Core.Path.{◌≡◌, refl, sym, ap, subst, ◌∙◌}
use mathlib.Core.Bool.{Bool, true, false, ◌&&◌}
use mathlib.Core.List.{List}
use Prim.Native.Nat.{ℕ, zero, suc, ◌+◌, ◌-◌, ◌*◌, ◌≤◌, ◌<◌}
use native.Mathlib.Omega.{arith}
use lib.Dec.{eqb, ltb}
use lib.ListN.{length, drop}
use borrow.Author.Tests.{ltb-true, ltb-false}
use Rattle.refusal.specs.Number.{Done}
use Rattle.field_base.specs.Words.{all_below}
use Rattle.field_base.proofs.Below.{below_take, below_drop}
use Rattle.field.specs.Element.{Canonical, element_at}
use Rattle.air.specs.ChallengeId.{RECORD-WORDS}
use Rattle.table_rows.specs.Rows.{rows, row_before, rows_from}
use Rattle.table_pad.specs.Pad.{padding_row}
use Rattle.column_entries.specs.Columns.{Column, running}
use Rattle.column_entries.specs.AuxRow.{place_of, aux_row}
use Rattle.column_entries.proofs.AuxRow.{length-row, value_at_lem}
use Rattle.column_weights.specs.Ready.{ReadyTable}
use Rattle.column_steps.specs.Step.{zero_row}
use Rattle.column_steps.specs.Walk.{through}
use Rattle.column_steps.proofs.Steps.{running_canonical}
use Rattle.column_steps.proofs.Walk.{running_through, through_same}
use Rattle.extend_fractions.specs.Fractions.{fractions_of, Divisible}
use Rattle.extend_denominators.proofs.Zeros.{row_fractions, divisible}
use Rattle.extend_denominators.proofs.Rows.{fractions_given}
use Rattle.extend_cells.specs.Cells.{cells_of, CanonicalCells}
use Rattle.extend_cells.proofs.Canonical.{canonical_cells}
use Rattle.extend_padding.proofs.Padding.{padding_fractions}
use Rattle.extend_answer.proofs.Accepted.{passed, ready}
use Rattle.terminals_extended.specs.Extended.{extended_answer, extended_cells}
use Rattle.terminals_walk.specs.Grown.{grown, EndsInPadding, Growing}
use Rattle.terminals_walk.proofs.Grown.{row, last, length_last, main_rows, begins, grown_whole, grown_height, grown_below, from_last, at_last, zero_grown}
use Rattle.terminals_walk.proofs.LastRow.{Table, by_tests, answer, cells}

before_row : (f : ℕ → List ℕ) (k : ℕ) → 0 < k → row_before zero_row f k ≡ f (k - 1)
before_row f zero h = absurd (omega arith)
before_row f (suc k) h = let e : k ≡ suc k - 1 = omega arith in ap f e

module _ (main : List ℕ) (height : ℕ) (growing : Growing main height) (challenges : List ℕ) where
  own : Table main
  own = record { whole = growing.whole; some = growing.some }

  all : Table (grown height main)
  all =
      let e = grown_height main height growing in
      record { whole = grown_whole main height growing; some = omega (arith, e, growing.some, growing.within) }

  -- nothing to walk
  pub at_rest : height ≤ rows main → grown height main ≡ main
  unfolding grown
  at_rest h =
      let e : height ≡ rows main = omega (arith, h, growing.within) in
      ap (rows_from (row main height growing) 0) e ∙ begins main height growing

  module _ (ends : EndsInPadding main) where
    pub same_answer : extended_answer (grown height main) challenges ≡ extended_answer main challenges
    same_answer =
        answer (grown height main) challenges all (omega (arith, grown_height main height growing, growing.short))
        ∙ (λ i. by_tests (eqb (length challenges) RECORD-WORDS) (grown_below main height growing i && all_below challenges) (zero_grown main height growing challenges ends i))
        ∙ sym (answer main challenges own (omega (arith, growing.within, growing.short)))

    module _ (done : extended_answer main challenges ≡ Done) where
      -- a column's value in the row that was extended
      value : {words : List ℕ} → words ≡ extended_cells main challenges → (c : Column) → element_at words (place_of c * 3) ≡ running c challenges main (rows main)
      value e c = ap (λ ws. element_at ws (place_of c * 3)) (e ∙ cells main challenges own done) ∙ value_at_lem (λ k. running k challenges main (rows main)) c

      value-canonical : {words : List ℕ} → words ≡ extended_cells main challenges → (c : Column) → Canonical (element_at words (place_of c * 3))
      value-canonical e c = subst Canonical (sym (value e c)) (running_canonical c challenges main (rows main))

      pub words-canonical : {words : List ℕ} → words ≡ extended_cells main challenges → CanonicalCells (cells_of (λ c. element_at words (place_of c * 3)))
      words-canonical {words} e = canonical_cells (λ c. element_at words (place_of c * 3)) (value-canonical e)

      -- a column's value, walked on
      end_of : {words : List ℕ} → words ≡ extended_cells main challenges → (c : Column)
          → through c challenges (padding_row (last main height growing)) (rows main) (height - rows main) (element_at words (place_of c * 3))
          ≡ running c challenges (grown height main) (rows (grown height main))
      unfolding grown
      end_of e c =
          let k = rows main in
          let n = height - k in
          let f = row main height growing in
          let g = padding_row (last main height growing) in
          let sum : k + n ≡ height = omega (arith, growing.within) in
          let fore = before_row f k (omega (arith, growing.some)) ∙ from_last main height growing challenges ends (k - 1) (omega arith) ∙ sym (before_row g k (omega (arith, growing.some))) in
          ap (through c challenges g k n) (value e c ∙ ap (λ t. running c challenges t k) (sym (begins main height growing)))
          ∙ sym (through_same c challenges f g k n (running c challenges (rows_from f 0 k) k) fore (λ j l m. from_last main height growing challenges ends j (omega (arith, l))))
          ∙ sym (running_through c challenges f k k n (main_rows main height growing (k + n)) (omega arith) (omega arith))
          ∙ ap (λ (j : ℕ). running c challenges (rows_from f 0 j) j) sum
          ∙ ap (running c challenges (grown height main)) (sym (grown_height main height growing))

      pub walked : {words : List ℕ} → words ≡ extended_cells main challenges
          → aux_row (λ c. through c challenges (padding_row (last main height growing)) (rows main) (height - rows main) (element_at words (place_of c * 3)))
          ≡ extended_cells (grown height main) challenges
      walked e = ap aux_row (λ i c. end_of e c i) ∙ sym (cells (grown height main) challenges all (same_answer ∙ done))

      pub words-length : {words : List ℕ} → words ≡ extended_cells main challenges → length words ≡ 33
      words-length e = ap length (e ∙ cells main challenges own done) ∙ length-row (λ c. running c challenges main (rows main))

      pub last-ready : ReadyTable challenges (last main height growing)
      unfolding extended_answer
      last-ready =
          let k = rows main in
          let given = ready main challenges 4 _ _ done in
          let below = below_take 39 (drop ((k - 1) * 39) main) (below_drop ((k - 1) * 39) main given.main_below) in
          record { whole = given.whole; challenges_below = given.challenges_below; main_below = below }

      -- what the padding rows are divided by
      pub padding_divisible : Divisible (fractions_of challenges (padding_row (last main height growing) (rows main)) (padding_row (last main height growing) (rows main)))
      unfolding extended_answer
      padding_divisible =
          let k = rows main in
          let r = k - 1 in
          let f = row main height growing in
          let none = (passed main challenges 4 _ _ done).no_zero in
          let same =
          ap (λ t. row_fractions challenges t r) (sym (begins main height growing))
          ∙ fractions_given challenges f k (main_rows main height growing k) r (omega (arith, growing.some))
          ∙ at_last main height growing challenges ends
          ∙ padding_fractions challenges (last main height growing) (length_last main height growing) 0 0 k k in
          subst Divisible same (divisible challenges main none r (omega (arith, growing.some)))

  -- walked or not
  pub answer_kept : extended_answer (grown height main) challenges ≡ extended_answer main challenges
  answer_kept = go (ltb (rows main) height) refl
    where
      go : (b : Bool) → ltb (rows main) height ≡ b → extended_answer (grown height main) challenges ≡ extended_answer main challenges
      go true e = same_answer (growing.window (ltb-true (rows main) height e))
      go false e = ap (λ t. extended_answer t challenges) (at_rest (ltb-false (rows main) height e))
