-- The check says yes exactly to extension's columns, and refuses what extension refuses.
use mathlib.Core.Path.{◌≡◌, refl, sym, ap, ◌∙◌}
use mathlib.Core.Bool.{true, ◌&&◌, and-true}
use mathlib.Core.List.{List, [], ◌∷◌}
use Prim.Native.Nat.{ℕ, zero, suc, ◌+◌, ◌-◌, ◌*◌, ◌/◌, ◌%◌, ◌<◌}
use native.Mathlib.Nat.{add-zero}
use native.Mathlib.Omega.{arith}
use lib.Dec.{eqb}
use lib.ListN.{length, get_or}
use lib.Seq.{ext_get_or}
use borrow.Author.Tests.{eq-eqb, ne_eqb}
use Rattle.std.specs.Prelude.{Result, Ok, Err, Option, None}
use Rattle.refusal.specs.declared.Refusal.{Refusal}
use Rattle.refusal.specs.declared.Refusal.TheVariants.{SliceLength}
use Rattle.refusal.proofs.First.{seen_through}
use Rattle.refusal.specs.Tests.{Done, ◌unless◌}
use Rattle.field_base.specs.Words.{all_below}
use Rattle.field_base.proofs.Below.{below_append}
use Rattle.field.specs.Element.{Canonical, element_at, words_of}
use Rattle.field.specs.declared.XFieldElement.{XFieldElement}
use Rattle.field.proofs.Below.{canonical_below}
use Rattle.air.specs.ChallengeId.{RECORD-WORDS}
use Rattle.table_rows.specs.Rows.{whole_rows, rows, rows_from}
use Rattle.table_rows.proofs.Rows.{length-rows}
use Rattle.column_entries.specs.Columns.{Column, columns, running, cell}
use Rattle.column_entries.specs.AuxRow.{place_of, cell_at, placed, aux_row}
use Rattle.column_entries.proofs.AuxRow.{gathered, length-row}
use Rattle.column_steps.proofs.Steps.{running_canonical}
use Rattle.extend_table.specs.Extended.{cells_of_row, extended}
use Rattle.extend_answer.specs.Answer.{rows_test, words_test, denominator_test, extend_answer}
use Rattle.extend_answer.proofs.Accepted as extension
use Rattle.extend.specs.Extend.{extend_aux}
use Rattle.extend.proofs.Written.{written}
use Rattle.check_relations.specs.Offered.{cell_before}
use Rattle.check_relations.proofs.Cells.{start_running, holds_exactly, all_cells}
use Rattle.check_relations.specs.First.{verdict, place}
use Rattle.check_relations.proofs.FirstPlace.{column_at, all_hold, first_place}
use Rattle.check_relations.specs.declared.Place.{Place}
use Rattle.check_columns.specs.Check.{check_answer}
use Rattle.check_columns.proofs.Stages.{passed, verdict_is}
use Rattle.terms.specs.Check.{Lent, Check}
use Rattle.terms.proofs.Cells.{cell_at_lem}

-- what extension writes: its length, its words, and that its cells are all of it
module _ (main challenges : List ℕ) where
  extended_long : length (extended main challenges) ≡ rows main * 33
  unfolding extended
  extended_long = length-rows 33 (cells_of_row challenges main) 0 (rows main) (λ r l h. length-row (λ c. cell c challenges main r))

  words_below : (value : Column → XFieldElement) → ((c : Column) → Canonical (value c)) → (cs : List Column) → all_below (gathered value cs) ≡ true
  unfolding all_below
  words_below value h [] = refl
  words_below value h (c ∷ cs) = below_append (words_of (value c)) (gathered value cs) (canonical_below (h c)) (words_below value h cs)

  row_below : (value : Column → XFieldElement) → ((c : Column) → Canonical (value c)) → all_below (aux_row value) ≡ true
  unfolding aux_row placed
  row_below value h = words_below value h columns

  rows_below : (row : ℕ → List ℕ) → ((r : ℕ) → all_below (row r) ≡ true) → (c n : ℕ) → all_below (rows_from row c n) ≡ true
  unfolding rows_from all_below
  rows_below row h c zero = refl
  rows_below row h c (suc n) = below_append (row c) (rows_from row (suc c) n) (h c) (rows_below row h (suc c) n)

  extended_below : all_below (extended main challenges) ≡ true
  unfolding extended
  extended_below = rows_below (cells_of_row challenges main) (λ r. row_below (λ c. cell c challenges main r) (λ c. running_canonical c challenges main (suc r))) 0 (rows main)

  -- a list of as many words that has extension's cells is what extension writes
  module _ (offered : List ℕ) (long : length offered ≡ rows main * 33) (cells : (r : ℕ) (c : Column) → r < rows main → cell_at c offered r ≡ cell c challenges main r) where
    -- word m of the cell at word i
    word : (i m : ℕ) → m < 3 → element_at offered i ≡ element_at (extended main challenges) i → get_or offered (i + m) 0 ≡ get_or (extended main challenges) (i + m) 0
    word i zero h e = rw (add-zero i) (ap (λ x. x.c0) e)
    word i (suc zero) h e = ap (λ x. x.c1) e
    word i (suc (suc zero)) h e = ap (λ x. x.c2) e
    word i (suc (suc (suc m))) h e = absurd (omega (arith, h))

    at : (r k m : ℕ) → r < rows main → k < 11 → m < 3 → get_or offered (r * 33 + k * 3 + m) 0 ≡ get_or (extended main challenges) (r * 33 + k * 3 + m) 0
    at r k m l h n =
        let c = column_at k h in
        rw (← c.1) (word (r * 33 + place_of c.0 * 3) m n (cells r c.0 l ∙ sym (cell_at_lem main challenges c.0 r l)))

    all_words : offered ≡ extended main challenges
    all_words = ext_get_or 0 offered (extended main challenges) (long ∙ sym extended_long) (λ i l.
        let e : i ≡ i / 33 * 33 + i % 33 / 3 * 3 + i % 33 % 3 = omega arith in
        rw e (at (i / 33) (i % 33 / 3) (i % 33 % 3) (omega (arith, long, l)) (omega arith) (omega arith)))

-- Extension's answer, with the verdict in the place of Done.
abbrev as_checked : Result (Unit {0}) Refusal → Option Place → Result (Option Place) Refusal
as_checked (Ok u) v = Ok v
as_checked (Err r) v = Err r

refused_both : (a : Result (Unit {0}) Refusal) (v : Option Place) (r : Refusal) → as_checked a v ≡ Err r → a ≡ Err r
refused_both (Ok u) v r e = cc
refused_both (Err s) v r e = cc

done_both : (a : Result (Unit {0}) Refusal) (v w : Option Place) → as_checked a v ≡ Ok w → a ≡ Done
done_both (Ok u) v w e = refl
done_both (Err s) v w e = cc

module _ (main challenges offered : List ℕ) (chunk : ℕ) (aux work : List ℕ) (lent : Lent main chunk aux work) where
  same_answer : length offered ≡ rows main * 33 → all_below offered ≡ true
      → check_answer main challenges offered ≡ as_checked (extend_answer main challenges chunk aux work) (verdict challenges main offered)
  unfolding check_answer extend_answer
  same_answer long below =
      rw (
        eq-eqb (length offered) (rows main * 33) long,
        below,
        and-true (all_below main && all_below challenges),
        eq-eqb (length aux) (rows main * 33) lent.aux_length,
        and-true (whole_rows main),
        ne_eqb chunk 0 (λ e. omega (arith, lent.chunk_length)),
        eq-eqb (length work) _ lent.work_length,
      )
      (sym
      (seen_through (λ a. as_checked a (verdict challenges main offered)) Err
      ((SliceLength unless whole_rows main && eqb (length challenges) RECORD-WORDS) ∷ rows_test main ∷ words_test (main ∷ challenges ∷ []) ∷ denominator_test main challenges ∷ [])
      Done))

  -- yes is just extension's columns
  says_yes : check_answer main challenges offered ≡ Ok None → (extend_answer main challenges chunk aux work ≡ Done) × (extend_aux main challenges chunk aux work ≡ offered)
  says_yes h =
      let p = passed main challenges offered h in
      let done = done_both (extend_answer main challenges chunk aux work) (verdict challenges main offered) None (sym (same_answer p.offered_length p.offered_below) ∙ h) in
      let held = (all_hold challenges main offered).0 (verdict_is main challenges offered h) in
      (done, written main challenges chunk aux work done ∙ sym (all_words main challenges offered p.offered_length (all_cells challenges main offered p.no_zero p.offered_below held)))

  yes_to : (extend_answer main challenges chunk aux work ≡ Done) × (extend_aux main challenges chunk aux work ≡ offered) → check_answer main challenges offered ≡ Ok None
  yes_to h =
      let e = sym h.1 ∙ written main challenges chunk aux work h.0 in
      let below = ap all_below e ∙ extended_below main challenges in
      let no_zero = (extension.passed main challenges chunk aux work h.0).no_zero in
      let own : (r : ℕ) (c : Column) → r < rows main → cell_at c offered r ≡ cell c challenges main r = λ r c l. ap (λ t. cell_at c t r) e ∙ cell_at_lem main challenges c r l in
      same_answer (ap length e ∙ extended_long main challenges) below
      ∙ ap (λ a. as_checked a (verdict challenges main offered)) h.0
      ∙ ap Ok ((all_hold challenges main offered).1 (λ r c l. (holds_exactly challenges main offered no_zero r l below c (before own c r l)).1 (own r c l)))
    where
      before : ((r : ℕ) (c : Column) → r < rows main → cell_at c offered r ≡ cell c challenges main r) → (c : Column) (r : ℕ) → r < rows main → cell_before c offered r ≡ running c challenges main r
      before own c zero l = start_running challenges main offered c
      before own c (suc r) l = own r c (omega arith)

pub check : Check
check =
    record {
      yes = λ main challenges offered chunk aux work lent. (says_yes main challenges offered chunk aux work lent, yes_to main challenges offered chunk aux work lent);
      refusals = λ main challenges offered chunk aux work lent long below r.
          let e = same_answer main challenges offered chunk aux work lent long below in
          (λ h. refused_both (extend_answer main challenges chunk aux work) (verdict challenges main offered) r (sym e ∙ h), λ h. e ∙ ap (λ a. as_checked a (verdict challenges main offered)) h);
      relations = λ main challenges offered v h c r l e.
          let p = passed main challenges offered h in
          holds_exactly challenges main offered p.no_zero r l p.offered_below c e;
      no = λ main challenges offered v h r k.
          let e = verdict_is main challenges offered h in
          let first = first_place challenges main offered r k in
          (λ n. first.0 (e ∙ n), λ f. sym e ∙ first.1 f);
    }
