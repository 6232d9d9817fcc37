-- The text of the trace up to its rows.
use mathlib.Core.Path.{◌≡◌, sym, ap, ◌∙◌}
use Prim.Native.Nat.{◌*◌, ◌≤◌}
use native.Mathlib.Omega.{arith}
use lib.ListN.{length, take}
use lib.Seq.{sets, length-take-le}
use Rattle.batch.specs.Lent.{zeros}
use Rattle.batch.proofs.Opened.{within_opened}
use Rattle.inspect_text.specs.Text.{trace_text}
use Rattle.inspect_report.specs.Text.{text_after, inspect_text}
use Rattle.inspect_report.proofs.report.Goals as goal
use Rattle.inspect_report.proofs.report.Goals.{In-Ok}

pub slice_bounds-put_trace-end : goal.slice_bounds-put_trace-end
slice_bounds-put_trace-end c =
    let fits = within_opened c.args.batch.now c.in-Ok.counts (sym c.in-Ok.ensures.answer) in
    let inside : c.in-Ok.counts.rows * 39 ≤ length c.open_trace.new.trace = omega (arith, c.open_trace.ensures.length) in
    sym (length-take-le _ _ inside)

text : (c : In-Ok) → trace_text (take (c.in-Ok.counts.rows * 39) c.open_trace.new.trace) ≡ inspect_text c.args.batch.now
unfolding zeros inspect_text
text c = ap (λ l. trace_text (take (c.in-Ok.counts.rows * 39) l)) c.in-Ok.ensures.trace ∙ ap (λ a. text_after a c.args.batch.now) c.in-Ok.ensures.answer

pub returns-in-Ok : goal.returns-in-Ok
returns-in-Ok c =
    let same = text (goal.at.returns-in-Ok c).In-Ok in
    record { length = (c.put_trace.ensures.end.0 ∙ ap length same, omega arith); text = c.put_trace.ensures.text ∙ ap (sets c.args.out.now 0) same }
