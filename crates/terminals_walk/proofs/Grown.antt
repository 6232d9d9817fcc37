-- A table that goes on with padding: its rows, its words, and its denominators.
use mathlib.Core.Path.{◌≡◌, refl, sym, ap, subst, ◌∙◌}
use mathlib.Core.Bool.{Bool, true, false, true≢false}
use mathlib.Core.List.{List, ◌++◌}
use Prim.Native.Nat.{ℕ, zero, suc, ◌+◌, ◌-◌, ◌*◌, ◌%◌, ◌≤◌, ◌<◌}
use native.Mathlib.Nat as number
use native.Mathlib.Omega.{arith}
use lib.Dec.{ltb}
use lib.ListN.{length, drop, set, length-set}
use lib.Seq.{take_all}
use borrow.Author.Tests.{lt-ltb, le-ltb, ltb-true, ltb-false, eqb-true, eq-eqb}
use Rattle.field_base.specs.Words.{all_below}
use Rattle.field_base.proofs.Below.{below_append, below_parts, below_take, below_drop}
use Rattle.table_rows.specs.Rows.{whole_rows, rows, row_at, rows_from}
use Rattle.table_rows.proofs.Rows.{split_rows, same_rows, rows_of, length-row, length-rows}
use Rattle.table_pad.specs.Pad.{padding_row, padded_row}
use Rattle.column_entries.specs.Denominators.{zero_up_to, zero_denominator}
use Rattle.column_steps.specs.Walk.{MainRows}
use Rattle.extend_fractions.specs.declared.Fractions.{Fractions}
use Rattle.extend_fractions.specs.Fractions.{fractions_of}
use Rattle.extend_denominators.proofs.Rows.{fractions_at, zero_goes_on}
use Rattle.extend_padding.proofs.Padding.{padding_below, padding_fractions, window_fractions}
use Rattle.terminals_walk.specs.Grown.{grown, EndsInPadding, Growing}

module _ (main : List ℕ) (height : ℕ) (growing : Growing main height) where
  abbrev pub kept : ℕ
  kept = rows main

  -- a row of the table, and the row that is repeated
  abbrev pub row : ℕ → List ℕ
  row = padded_row main kept

  abbrev pub last : List ℕ
  last = row_at main (kept - 1)

  pub length-main : length main ≡ kept * 39
  length-main = let e = eqb-true (length main % 39) 0 growing.whole in omega (arith, e)

  pub length_last : length last ≡ 39
  length_last = length-row main (kept - 1) (omega (arith, length-main, growing.some))

  pub kept_row : (k : ℕ) → k < kept → row k ≡ row_at main k
  kept_row k h = rw (lt-ltb k kept h)

  pub padding_from : (k : ℕ) → kept ≤ k → row k ≡ padding_row last k
  padding_from k h = rw (le-ltb k kept h)

  length-padding : (k : ℕ) → length (padding_row last k) ≡ 39
  length-padding k = length-set (set (set last 1 1) 38 0) 0 k ∙ length-set (set last 1 1) 38 0 ∙ length-set last 1 1 ∙ length_last

  row_length : (k : ℕ) (b : Bool) → ltb k kept ≡ b → length (row k) ≡ 39
  row_length k true e = rw e (length-row main k (omega (arith, length-main, ltb-true k kept e)))
  row_length k false e = rw e (length-padding k)

  pub main_rows : (n : ℕ) → MainRows row n
  main_rows n k h = row_length k (ltb k kept) refl

  -- the table begins with its own rows
  pub begins : rows_from row 0 kept ≡ main
  begins = same_rows row (row_at main) 0 kept (λ k l m. kept_row k (omega arith)) ∙ rows_of main 0 kept ∙ take_all (kept * 39) main (omega (arith, length-main))

  pub grown_length : length (grown height main) ≡ height * 39
  unfolding grown
  grown_length = length-rows 39 row 0 height (λ k l h. main_rows height k (omega arith))

  pub grown_whole : whole_rows (grown height main) ≡ true
  grown_whole = eq-eqb (length (grown height main) % 39) 0 (omega (arith, grown_length))

  pub grown_height : rows (grown height main) ≡ height
  grown_height = omega (arith, grown_length)

  -- its words
  row_below : all_below main ≡ true → (k : ℕ) → k < height → (b : Bool) → ltb k kept ≡ b → all_below (row k) ≡ true
  row_below below k h true e = rw e (below_take 39 (drop (k * 39) main) (below_drop (k * 39) main below))
  row_below below k h false e = rw e (padding_below last k (omega (arith, growing.short)) (below_take 39 (drop ((kept - 1) * 39) main) (below_drop ((kept - 1) * 39) main below)))

  rows_below : (c n : ℕ) → c + n ≤ height → all_below main ≡ true → all_below (rows_from row c n) ≡ true
  unfolding rows_from all_below
  rows_below c zero h below = refl
  rows_below c (suc n) h below = below_append (row c) (rows_from row (suc c) n) (row_below below c (omega arith) (ltb c kept) refl) (rows_below (suc c) n (omega arith) below)

  first_rows : grown height main ≡ main ++ rows_from row kept (height - kept)
  unfolding grown
  first_rows =
      let e : height ≡ kept + (height - kept) = omega (arith, growing.within) in
      ap (rows_from row 0) e ∙ split_rows row 0 kept (height - kept) ∙ rw (number.zero-add kept) (ap (λ l. l ++ rows_from row kept (height - kept)) begins)

  pub grown_below : all_below (grown height main) ≡ all_below main
  unfolding grown
  grown_below = go (all_below main) refl (all_below (grown height main)) refl
    where
      go : (b : Bool) → all_below main ≡ b → (b' : Bool) → all_below (grown height main) ≡ b' → all_below (grown height main) ≡ all_below main
      go true e b' e' = rows_below 0 height (omega arith) e ∙ sym e
      go false e true e' = absurd (true≢false (sym (below_parts main (rows_from row kept (height - kept)) (ap all_below (sym first_rows) ∙ e')).0 ∙ e))
      go false e false e' = e' ∙ sym e

  -- its windows, from the one that ends with the last row on
  module _ (challenges : List ℕ) (ends : EndsInPadding main) where
    abbrev pub repeated : Fractions
    repeated = fractions_of challenges (padding_row last 0) (padding_row last 0)

    pub from_last : (k : ℕ) → kept ≤ suc k → row k ≡ padding_row last k
    from_last k h = go (ltb k kept) refl
      where
        go : (b : Bool) → ltb k kept ≡ b → row k ≡ padding_row last k
        go true e = let here : kept - 1 ≡ k = omega (arith, h, ltb-true k kept e) in kept_row k (ltb-true k kept e) ∙ subst (λ (j : ℕ). row_at main j ≡ padding_row last j) here ends.last
        go false e = padding_from k (ltb-false k kept e)

    later : (k : ℕ) → kept ≤ k → fractions_at challenges row k ≡ repeated
    later zero h = absurd (omega (arith, h, growing.some))
    later (suc k) h =
        (λ i. fractions_of challenges (from_last k h i) (from_last (suc k) (omega (arith, h)) i))
        ∙ padding_fractions challenges last length_last k (suc k) 0 0

    pub at_last : fractions_at challenges row (kept - 1) ≡ repeated
    at_last =
        let k = kept - 2 in
        let e : kept - 1 ≡ suc k = omega (arith, ends.three) in
        let one_before = kept_row k (omega (arith, ends.three)) ∙ ends.before in
        ap (fractions_at challenges row) e
        ∙ (λ i. fractions_of challenges (one_before i) (from_last (suc k) (omega (arith, ends.three)) i))
        ∙ window_fractions challenges last length_last ends.multiplicity k (suc k) 0 0

    pub zero_grown : zero_denominator (grown height main) challenges ≡ zero_denominator main challenges
    unfolding grown
    zero_grown =
        let r = kept - 1 in
        let n = height - kept in
        let all : suc r + n ≡ height = omega (arith, growing.some, growing.within) in
        let own : suc r ≡ kept = omega (arith, growing.some) in
        ap (zero_up_to challenges (grown height main)) grown_height
        ∙ ap (λ (k : ℕ). zero_up_to challenges (rows_from row 0 k) k) (sym all)
        ∙ zero_goes_on challenges row r n (main_rows (suc r + n)) (λ k l m. later k (omega (arith, l, own)) ∙ sym at_last)
        ∙ ap (λ (k : ℕ). zero_up_to challenges (rows_from row 0 k) k) own
        ∙ ap (λ t. zero_up_to challenges t kept) begins
