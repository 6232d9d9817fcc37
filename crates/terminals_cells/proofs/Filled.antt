-- Fill does with the rows at hand what it does with the whole table.
use mathlib.Core.Path.{◌≡◌, refl, sym, ap, ◌∙◌}
use mathlib.Core.Bool.{Bool, true, false, cond, not, ◌&&◌, ◌||◌}
use mathlib.Core.List.{List, ◌++◌, append_assoc}
use Prim.Native.Nat.{ℕ, ◌-◌, ◌*◌, ◌/◌, ◌≤◌, ◌<◌}
use native.Mathlib.Omega.{arith}
use lib.Dec.{ltb}
use lib.ListN.{length, drop, length-append, length-drop, length-set}
use borrow.Author.Tests.{ltb-true, ltb-false, le-leb, le-ltb}
use Rattle.std.proofs.lemmas.List.{drop-append-le}
use Rattle.std.specs.Prelude.{Result, Ok, Err}
use Rattle.refusal.specs.Long.{is_long}
use Rattle.refusal.specs.declared.Refusal.TheVariants.{SliceLength, RowCount, WordNotBelowP, DifferenceTooLarge}
use Rattle.refusal.specs.Number.{Done, on_done}
use Rattle.refusal.specs.declared.Refusal.{Refusal}
use Rattle.field_base.specs.Words.{all_below}
use Rattle.table_rows.specs.Rows.{whole_rows, rows, row_at, rows_from}
use Rattle.table_rows.proofs.Rows.{length-row, length-rows}
use Rattle.table_fill.specs.Fill.{fill_answer, fill_table, filled, filled_row, multiplicity, all_under}
use Rattle.table_fill.proofs.Accepted.{Accepted, accepted}
use Rattle.batch.specs.Lent.{zeros}
use Rattle.terminals_cells.specs.Kept.{Kept, longer}
use Rattle.terminals_cells.proofs.Longer.{longer_rows, longer_whole, longer_same}

-- the table that goes on is the one at hand, or it holds the trace as that one does
module _ (n : ℕ) (table : List ℕ) (height : ℕ) (kept : Kept n (rows table) height) where
  pub all_at_hand : height ≤ rows table → longer height table ≡ table
  all_at_hand h = let e : height ≡ rows table = omega (arith, kept.within) in ap (λ (k : ℕ). longer k table) e ∙ longer_same table

  pub not_shorter : (whole : whole_rows table ≡ true) → rows table < height → ltb (rows (longer height table)) n ≡ ltb (rows table) n
  not_shorter whole h =
      let e = kept.window h in
      le-ltb (rows (longer height table)) n (omega (arith, e, longer_rows height table whole kept.within, kept.within)) ∙ sym (le-ltb (rows table) n (omega (arith, e)))

  pub not_long : (whole : whole_rows table ≡ true) → is_long (rows (longer height table)) ≡ is_long (rows table)
  not_long whole =
      ap not (le-leb (rows (longer height table)) 4194304 (omega (arith, longer_rows height table whole kept.within, kept.short)) ∙ sym (le-leb (rows table) 4194304 (omega (arith, kept.within, kept.short))))

module _ (trace op_stack ram jump_stack table : List ℕ) (height : ℕ) (whole : whole_rows table ≡ true) (kept : Kept (rows trace) (rows table) height) where
  abbrev answer_in : List ℕ → Result (Unit {0}) Refusal
  answer_in t = fill_answer trace op_stack ram jump_stack t

  by_tests : Bool → Bool → Bool → Result (Unit {0}) Refusal
  by_tests rows_whole long short =
      cond (not (whole_rows trace && rows_whole) || is_long (length op_stack) || is_long (length ram) || is_long (length jump_stack)) (Err SliceLength)
      (cond (long || short) (Err RowCount)
      (cond (not (all_below trace && all_below op_stack && all_below ram && all_below jump_stack)) (Err WordNotBelowP)
      (cond (not (all_under (rows trace) op_stack && all_under (rows trace) ram && all_under (rows trace) jump_stack)) (Err DifferenceTooLarge)
      Done)))

  pub same_answer : answer_in (longer height table) ≡ answer_in table
  unfolding fill_answer by_tests
  same_answer = go (ltb (rows table) height) refl
    where
      go : (b : Bool) → ltb (rows table) height ≡ b → answer_in (longer height table) ≡ answer_in table
      go false e = ap answer_in (all_at_hand (rows trace) table height kept (ltb-false (rows table) height e))
      go true e =
          λ i. by_tests ((longer_whole height table whole kept.within ∙ sym whole) i) (not_long (rows trace) table height kept whole i)
          (not_shorter (rows trace) table height kept whole (ltb-true (rows table) height e) i)

  abbrev counted : ℕ → ℕ
  counted = multiplicity op_stack ram jump_stack

  filled_length : Accepted trace op_stack ram jump_stack table → length (filled trace counted table) ≡ length table
  unfolding filled
  filled_length a =
      let front = length-rows 39 (filled_row trace counted) 0 (rows trace) (λ k l h. length-set (row_at trace k) 38 (counted k) ∙ length-row trace k (omega (arith, h))) in
      length-append (rows_from (filled_row trace counted) 0 (rows trace)) (drop (length trace) table)
      ∙ omega (arith, front, length-drop (length trace) table, a.whole, a.fits)

  done_table : Accepted trace op_stack ram jump_stack table → filled trace counted (longer height table) ≡ longer height (filled trace counted table)
  unfolding longer filled
  done_table a =
      let zs = zeros ((height - rows table) * 39) in
      let front = rows_from (filled_row trace counted) 0 (rows trace) in
      ap (λ l. front ++ l) (drop-append-le (length trace) table zs (omega (arith, a.whole, a.fits)))
      ∙ sym (append_assoc front (drop (length trace) table) zs)
      ∙ ap (λ (n : ℕ). (front ++ drop (length trace) table) ++ zeros ((height - n / 39) * 39)) (sym (filled_length a))

  pub same_table : fill_table trace op_stack ram jump_stack (longer height table) ≡ longer height (fill_table trace op_stack ram jump_stack table)
  unfolding fill_table
  same_table = ap (λ a. on_done a (filled trace counted (longer height table)) (longer height table)) same_answer ∙ go (answer_in table) refl
    where
      go : (a : Result (Unit {0}) Refusal) → answer_in table ≡ a → on_done a (filled trace counted (longer height table)) (longer height table) ≡ longer height (on_done a (filled trace counted table) table)
      go (Ok u) e = done_table (accepted trace op_stack ram jump_stack table e)
      go (Err refusal) e = refl
