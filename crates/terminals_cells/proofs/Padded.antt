-- Padding the rows at hand, with row 1's multiplicity grown for all padding rows, makes the first rows of the padded table.
use mathlib.Core.Path.{◌≡◌, refl, sym, ap, ◌∙◌}
use mathlib.Core.Bool.{Bool, true, false, cond, not, ◌||◌}
use mathlib.Core.List.{List}
use Prim.Native.Nat.{ℕ, ◌+◌, ◌-◌, ◌*◌, ◌%◌, ◌≤◌, ◌<◌}
use native.Mathlib.Omega.{arith}
use lib.Dec.{eqb, ltb}
use lib.ListN.{length, take, get_or, set, length-set}
use borrow.Author.Tests.{ltb-true, ltb-false, eq-eqb, le-ltb}
use Rattle.std.proofs.lemmas.List.{take-append-le}
use Rattle.std.specs.Prelude.{Result, Err}
use Rattle.algebra.specs.Modulus.{plus}
use Rattle.refusal.specs.declared.Refusal.TheVariants.{SliceLength, RowCount, WordNotBelowP}
use Rattle.refusal.specs.Number.{Done, on_done}
use Rattle.refusal.specs.declared.Refusal.{Refusal}
use Rattle.field_base.specs.Words.{all_below}
use Rattle.table_rows.specs.Rows.{whole_rows, rows, row_at, rows_from}
use Rattle.table_rows.specs.Writes.{raised}
use Rattle.table_rows.proofs.Rows.{Whole, same_rows, length-row, length-rows, row_in_rows}
use Rattle.table_pad.specs.Pad.{pad_answer, padding_row, padded_row, padded, pad_table}
use Rattle.table_pad.proofs.Padded.{Shaped, shaped, padding_again, padding_without}
use Rattle.batch.specs.Lent.{zeros}
use Rattle.terminals_walk.specs.Grown.{grown, EndsInPadding, Growing}
use Rattle.terminals_cells.specs.Kept.{Kept, longer}
use Rattle.terminals_cells.proofs.Filled.{all_at_hand, not_shorter, not_long}
use Rattle.terminals_cells.proofs.Raised.{raised_rows, not_raised, raised_whole, raised_rows_lem, raised_twice}
use Rattle.terminals_cells.proofs.Longer.{row_within, length-table, longer_rows, longer_whole}

module _ (table : List ℕ) (len height : ℕ) (whole : whole_rows table ≡ true) (kept : Kept len (rows table) height) where
  by_tests : Bool → Bool → Bool → Bool → Bool → Result (Unit {0}) Refusal
  by_tests rows_whole few long short below =
      cond (not rows_whole) (Err SliceLength)
      (cond (few || long || eqb len 0 || short) (Err RowCount)
      (cond (not below) (Err WordNotBelowP)
      Done))

  first_words : rows table < height → all_below (take (len * 39) (longer height table)) ≡ all_below (take (len * 39) table)
  unfolding longer
  first_words h = ap all_below (take-append-le (len * 39) table (zeros ((height - rows table) * 39)) (omega (arith, kept.window h, length-table height table whole kept.within)))

  two_rows : ltb (rows (longer height table)) 2 ≡ ltb (rows table) 2
  two_rows = le-ltb (rows (longer height table)) 2 (omega (arith, longer_rows height table whole kept.within, kept.two, kept.within)) ∙ sym (le-ltb (rows table) 2 kept.two)

  pub same_answer : pad_answer (longer height table) len ≡ pad_answer table len
  unfolding pad_answer by_tests
  same_answer = go (ltb (rows table) height) refl
    where
      go : (b : Bool) → ltb (rows table) height ≡ b → pad_answer (longer height table) len ≡ pad_answer table len
      go false e = ap (λ t. pad_answer t len) (all_at_hand len table height kept (ltb-false (rows table) height e))
      go true e =
          let h = ltb-true (rows table) height e in
          λ i. by_tests ((longer_whole height table whole kept.within ∙ sym whole) i) (two_rows i) (not_long len table height kept whole i) (not_shorter len table height kept whole h i) (first_words h i)

  module _ (done : pad_answer table len ≡ Done) where
    shape : Shaped table len
    shape = shaped table len done

    -- a row of the padded table, before row 1's multiplicity grows and then
    abbrev last : List ℕ
    last = row_at table (len - 1)

    abbrev plain : ℕ → List ℕ
    plain = padded_row table len

    abbrev row : ℕ → List ℕ
    row = raised_rows plain (height - len)

    length_last : length last ≡ 39
    length_last = length-row table (len - 1) (omega (arith, length-table height table whole kept.within, shape.some, shape.within))

    length_by : (c : ℕ) (b : Bool) → ltb c len ≡ b → length (plain c) ≡ 39
    length_by c true e = rw e (length-row table c (omega (arith, length-table height table whole kept.within, ltb-true c len e, shape.within)))
    length_by c false e = rw e (length-set (set (set last 1 1) 38 0) 0 c ∙ length-set (set last 1 1) 38 0 ∙ length-set last 1 1 ∙ length_last)

    plain_whole : (n : ℕ) → Whole 39 plain 0 n
    plain_whole n k l h = length_by k (ltb k len) refl

    row_whole : (n : ℕ) → Whole 39 row 0 n
    row_whole n = raised_whole plain (height - len) n (plain_whole n)

    -- the rows at hand
    abbrev pub main : List ℕ
    main = raised (pad_table table len) 1 (height - rows table)

    main_is : main ≡ rows_from row 0 (rows table)
    unfolding pad_table padded
    main_is =
        let e : rows table - len + (height - rows table) ≡ height - len = omega (arith, shape.within, kept.within) in
        ap (λ a. raised (on_done a (padded table len) table) 1 (height - rows table)) done
        ∙ raised_twice plain (rows table - len) (height - rows table) (rows table) (plain_whole (rows table)) kept.two
        ∙ ap (λ (n : ℕ). rows_from (raised_rows plain n) 0 (rows table)) e

    -- all rows
    longer_row : (c : ℕ) (b : Bool) → ltb c len ≡ b → padded_row (longer height table) len c ≡ plain c
    unfolding longer
    longer_row c true e = rw e (row_within table (zeros ((height - rows table) * 39)) c (omega (arith, length-table height table whole kept.within, ltb-true c len e, shape.within)))
    longer_row c false e =
        rw e (ap (λ l. padding_row l c) (row_within table (zeros ((height - rows table) * 39)) (len - 1) (omega (arith, length-table height table whole kept.within, shape.some, shape.within))))

    all_are : pad_table (longer height table) len ≡ rows_from row 0 height
    unfolding pad_table padded
    all_are =
        ap (λ a. on_done a (padded (longer height table) len) (longer height table)) (same_answer ∙ done)
        ∙ ap (λ (n : ℕ). raised (rows_from (padded_row (longer height table) len) 0 n) 1 (n - len)) (longer_rows height table whole kept.within)
        ∙ ap (λ t. raised t 1 (height - len)) (same_rows (padded_row (longer height table) len) plain 0 height (λ k l h. longer_row k (ltb k len) refl))
        ∙ raised_rows_lem plain (height - len) height (plain_whole height) (omega (arith, kept.two, kept.within))

    -- past the rows at hand all is padding
    main_length : length main ≡ rows table * 39
    main_length = ap length main_is ∙ length-rows 39 row 0 (rows table) (row_whole (rows table))

    main_rows : rows main ≡ rows table
    main_rows = omega (arith, main_length)

    main_row : (c : ℕ) → c < rows table → row_at main c ≡ row c
    main_row c h = ap (λ t. row_at t c) main_is ∙ row_in_rows row (rows table) (row_whole (rows table)) c h

    padding_row_lem : (c : ℕ) → len ≤ c → (c ≡ 1 → ⊥) → row c ≡ padding_row last c
    padding_row_lem c h n = not_raised plain (height - len) c n ∙ rw (le-ltb c len h)

    last_row : rows table < height → row_at main (rows table - 1) ≡ padding_row last (rows table - 1)
    last_row h =
        let e = kept.window h in
        main_row (rows table - 1) (omega (arith, kept.two)) ∙ padding_row_lem (rows table - 1) (omega (arith, e)) (λ q. omega (arith, e, q, shape.some))

    again : rows table < height → (c : ℕ) → padding_row (row_at main (rows table - 1)) c ≡ padding_row last c
    again h c = ap (λ l. padding_row l c) (last_row h) ∙ padding_again c last length_last (rows table - 1)

    grown_row : (c : ℕ) → c < height → (b : Bool) → ltb c (rows table) ≡ b → padded_row main (rows table) c ≡ row c
    grown_row c h true e = rw e (main_row c (ltb-true c (rows table) e))
    grown_row c h false e =
        let past = ltb-false c (rows table) e in
        let more : rows table < height = omega (arith, past, h) in
        rw e (again more c ∙ sym (padding_row_lem c (omega (arith, kept.window more, past)) (λ q. omega (arith, q, kept.two, past))))

    pub grown_is : pad_table (longer height table) len ≡ grown height main
    unfolding grown
    grown_is =
        all_are
        ∙ sym (same_rows (padded_row main (rows table)) row 0 height (λ k l h. grown_row k (omega (arith, h)) (ltb k (rows table)) refl))
        ∙ ap (λ (n : ℕ). rows_from (padded_row main n) 0 height) (sym main_rows)

    -- row 1 is the one before the last where the trace has one row
    abbrev grown_by : ℕ
    grown_by = cond (eqb len 1) (plus (get_or (padding_row last len) 38 0) (height - len)) 0

    before_by : (b : Bool) → eqb len 1 ≡ b → row len ≡ set (padding_row last len) 38 grown_by
    before_by true e = rw (e, le-ltb len len (omega arith))
    before_by false e = rw (e, le-ltb len len (omega arith)) (sym (padding_without len last length_last))

    one_before : rows table < height → row_at main (rows table - 2) ≡ set (padding_row (row_at main (rows table - 1)) (rows table - 2)) 38 grown_by
    one_before h =
        let e : rows table - 2 ≡ len = omega (arith, kept.window h) in
        main_row (rows table - 2) (omega (arith, kept.two))
        ∙ ap row e ∙ before_by (eqb len 1) refl
        ∙ ap (λ (c : ℕ). set (padding_row last c) 38 grown_by) (sym e)
        ∙ ap (λ l. set l 38 grown_by) (sym (again h (rows table - 2)))

    pub growing : Growing main height
    growing =
        record {
          whole = eq-eqb (length main % 39) 0 (omega (arith, main_length));
          some = omega (arith, main_rows, kept.two);
          within = omega (arith, main_rows, kept.within);
          short = kept.short;
          window = λ h. ends (omega (arith, h, main_rows));
        }
      where
        ends : rows table < height → EndsInPadding main
        ends h =
            record {
              three = omega (arith, main_rows, kept.window h, shape.some);
              last = rw main_rows (last_row h ∙ sym (again h (rows table - 1)));
              multiplicity = grown_by;
              before = rw main_rows (one_before h);
            }

    pub few : rows main ≤ 34
    few = omega (arith, main_rows, kept.few)
