-- The lines of the cells, or the refusal.
use mathlib.Core.Path.{sym, ap, ◌∙◌}
use native.Mathlib.Omega.{arith}
use lib.ListN.{length}
use lib.Seq.{sets}
use Rattle.refusal.specs.Number.{on_done}
use Rattle.terminals_cells.specs.Terminals.{terminals_cells}
use Rattle.terminals_text.specs.Text.{lines, text_of}
use Rattle.terminals_report.specs.Text.{terminals_text}
use Rattle.terminals_report.proofs.report.Goals as goal

pub returns-in-Err : goal.returns-in-Err
unfolding terminals_text
returns-in-Err c =
    let args = c.args in
    let refused = sym c.last_cells.ensures.answer ∙ c.in-Err.is in
    let text = ap (λ a. text_of a (terminals_cells args.batch.now)) (sym refused) in record { length = (c.put_refusal.ensures.end.0 ∙ ap length text, omega arith); text = c.put_refusal.ensures.text ∙ ap (sets args.out.now 0) text }

pub returns-in-Ok : goal.returns-in-Ok
unfolding terminals_text
returns-in-Ok c =
    let args = c.args in
    let told = c.in-Ok.is in
    let done = sym c.last_cells.ensures.answer ∙ told in
    let cells = c.last_cells.ensures.cells ∙ ap (λ a. on_done a (terminals_cells args.batch.now) _) told in
    let text = ap lines cells ∙ ap (λ a. text_of a (terminals_cells args.batch.now)) (sym done) in record { length = (c.put_lines.ensures.end.0 ∙ ap length text, omega arith); text = c.put_lines.ensures.text ∙ ap (sets args.out.now 0) text }
