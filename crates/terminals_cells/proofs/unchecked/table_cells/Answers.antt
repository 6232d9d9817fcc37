-- The rows at hand are the start of an array of zeros.
use mathlib.Core.Path.{ap, ◌∙◌}
use Prim.Native.Nat.{ℕ, ◌*◌}
use Rattle.refusal.specs.Number.{on_done}
use Rattle.batch.specs.Lent.{zeros}
use Rattle.terminals_cells.specs.Terminals.{filled_answer, filled_cells, table_answer, table_cells}
use Rattle.terminals_cells.proofs.Longer.{longer_lent}
use Rattle.terminals_cells.proofs.unchecked.table_cells.Goals as goal

pub returns : goal.returns
unfolding table_answer table_cells
returns c =
    let args = c.args in
    let kept = c.kept_rows-end in
    let height = c.padded_height-height in
    let table = longer_lent kept.result height.result kept.ensures.few kept.ensures.within ∙ ap (λ (n : ℕ). zeros (n * 39)) height.ensures.0 in
    record {
      answer = c.filled_cells.ensures.answer ∙ ap (filled_answer args.trace.now args.op_stack.now args.ram.now args.jump_stack.now args.challenges.now) table;
      cells = c.filled_cells.ensures.cells
          ∙ ap (λ t. on_done c.filled_cells.result (filled_cells args.trace.now args.op_stack.now args.ram.now args.jump_stack.now args.challenges.now t) args.cells.now) table;
    }
