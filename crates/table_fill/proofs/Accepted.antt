-- What fill's answer says when nothing is refused.
use mathlib.Core.Path.{◌≡◌}
use mathlib.Core.Bool.{true, not, ◌&&◌, ◌||◌}
use mathlib.Core.List.{List}
use Prim.Native.Nat.{ℕ, ◌%◌, ◌≤◌}
use lib.Dec.{ltb}
use lib.ListN.{length}
use borrow.Author.Tests.{ltb-false, leb-true, eqb-true, not-false}
use Rattle.field_base.proofs.Below.{and-true}
use Rattle.refusal.specs.Long.{is_long}
use Rattle.table_rows.specs.Rows.{whole_rows, rows}
use Rattle.table_fill.specs.Fill.{all_under, fill_tests, fill_answer}
use Rattle.refusal.proofs.Answers.{or-false}
use Rattle.refusal.proofs.First.{done_exactly}
use Rattle.refusal.specs.Number.{Done}

-- what is needed to write
pub record Accepted (trace op_stack ram jump_stack table : List ℕ) : Type 0 where
  pub whole : length trace % 39 ≡ 0
  pub fits : rows trace ≤ rows table
  pub op_stack_short : length op_stack ≤ 4194304
  pub ram_short : length ram ≤ 4194304
  pub jump_stack_short : length jump_stack ≤ 4194304
  pub op_stack_under : all_under (rows trace) op_stack ≡ true
  pub ram_under : all_under (rows trace) ram ≡ true
  pub jump_stack_under : all_under (rows trace) jump_stack ≡ true

module _ (trace op_stack ram jump_stack table : List ℕ) where
  pub accepted : fill_answer trace op_stack ram jump_stack table ≡ Done → Accepted trace op_stack ram jump_stack table
  unfolding fill_answer
  accepted e =
      let none = (done_exactly (fill_tests trace op_stack ram jump_stack table)).0 e in
      let a₁ = or-false (not (whole_rows trace && whole_rows table) || is_long (length op_stack) || is_long (length ram)) (is_long (length jump_stack)) none.0 in
      let a₂ = or-false (not (whole_rows trace && whole_rows table) || is_long (length op_stack)) (is_long (length ram)) a₁.0 in
      let a₃ = or-false (not (whole_rows trace && whole_rows table)) (is_long (length op_stack)) a₂.0 in
      let a₄ = and-true (whole_rows trace) (whole_rows table) (not-false _ a₃.0) in
      let d₁ = and-true (all_under (rows trace) op_stack && all_under (rows trace) ram) (all_under (rows trace) jump_stack) (not-false _ none.1.1.1.0) in
      let d₂ = and-true (all_under (rows trace) op_stack) (all_under (rows trace) ram) d₁.0 in
      record {
        whole = eqb-true (length trace % 39) 0 a₄.0;
        fits = ltb-false (rows table) (rows trace) (or-false (is_long (rows table)) (ltb (rows table) (rows trace)) none.1.0).1;
        op_stack_short = leb-true (length op_stack) 4194304 (not-false _ a₃.1);
        ram_short = leb-true (length ram) 4194304 (not-false _ a₂.1);
        jump_stack_short = leb-true (length jump_stack) 4194304 (not-false _ a₁.1);
        op_stack_under = d₂.0;
        ram_under = d₂.1;
        jump_stack_under = d₁.1;
      }
