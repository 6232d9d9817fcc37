-- Where nothing is refused, the trace is copied, then each list counted.
use Rattle.std.proofs.Common.{◌≡◌, List, ℕ, sym, ◌∙◌, arith, Result, Ok}
use Rattle.refusal.specs.declared.Refusal.{Refusal}
use Rattle.table_fill.specs.Fill.{fill_answer, fill_table}
use Rattle.table_fill.proofs.Accepted.{Accepted, accepted}
use Rattle.table_fill.proofs.Differences.{under_more}
use Rattle.table_fill.proofs.Filled.{all_counted}
use Rattle.table_fill.proofs.fill.Goals as goal

-- what is known past the `?`
passed : {trace op_stack ram jump_stack table : List ℕ} {answer : Result (Unit {0}) Refusal} → answer ≡ fill_answer trace op_stack ram jump_stack table → answer ≡ Ok tt → Accepted trace op_stack ram jump_stack table
passed e ok = accepted _ _ _ _ _ (sym e ∙ ok)

pub copy_rows-requires : goal.copy_rows-requires
copy_rows-requires c = let a = passed c.fill_answer.ensures c.in_ok-fill_answer.was in (a.whole, omega arith)

pub count_differences-requires : goal.count_differences-requires
count_differences-requires c = let a = passed c.fill_answer.ensures c.in_ok-fill_answer.was in under_more _ _ (omega arith) _ a.op_stack_under

pub count_differences-requires-2 : goal.count_differences-requires-2
count_differences-requires-2 c = let a = passed c.fill_answer.ensures c.in_ok-fill_answer.was in under_more _ _ (omega arith) _ a.ram_under

pub count_differences-requires-3 : goal.count_differences-requires-3
count_differences-requires-3 c = let a = passed c.fill_answer.ensures c.in_ok-fill_answer.was in under_more _ _ (omega arith) _ a.jump_stack_under

pub returns-clause-filled : goal.returns-clause-filled
unfolding fill_table
returns-clause-filled c =
    let args = c.args in
    let a = passed c.fill_answer.ensures c.in_ok-fill_answer.was in
    rw (
      sym c.fill_answer.ensures ∙ c.in_ok-fill_answer.was,
      ← all_counted args.trace.now args.op_stack.now args.ram.now args.jump_stack.now args.table.now a,
      c.count_differences-3.ensures,
      c.count_differences-2.ensures,
      c.count_differences.ensures,
      c.copy_rows.ensures,
    )
