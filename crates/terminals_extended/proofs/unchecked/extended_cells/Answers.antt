-- The slices that extension writes into are the starts of arrays of zeros.
use borrow.Author.Rules.{rules}
use mathlib.Core.Path.{ap, ap₂, ◌∙◌}
use Prim.Native.Nat.{◌*◌, ◌/◌, ◌≤◌}
use native.Mathlib.Omega.{arith}
use lib.ListN.{length}
use Rattle.refusal.specs.Number.{on_done}
use Rattle.extend_answer.specs.Answer.{extend_answer}
use Rattle.extend.specs.Extend.{extend_aux}
use Rattle.batch.specs.Lent.{zeros}
use Rattle.terminals_extended.specs.Extended.{last_row, extended_answer, extended_cells}
use Rattle.terminals_extended.proofs.Zeros.{take-zeros}
use Rattle.terminals_extended.proofs.unchecked.extended_cells.Goals as goal

pub returns : goal.returns
unfolding extended_answer extended_cells
returns c =
    let main = c.args.main.now in
    let challenges = c.args.challenges.now in
    let chunks = c.started_chunks-work_end in
    let few : chunks.result * 6 ≤ 54 = search rules in
    let aux = take-zeros (length main / 39 * 33) 1122 (omega arith) in
    let work = take-zeros (chunks.result * 6) 54 few ∙ ap (λ n. zeros (n * 6)) chunks.ensures.0 in
    record {
      answer = c.extended_into.ensures.answer ∙ ap₂ (extend_answer main challenges 4) aux work;
      cells = c.extended_into.ensures.cells ∙ ap₂ (λ a w. on_done c.extended_into.result (last_row (extend_aux main challenges 4 a w)) c.args.cells.now) aux work;
    }
