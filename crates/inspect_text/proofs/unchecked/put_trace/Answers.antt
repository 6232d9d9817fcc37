-- Where there is no line nothing was written, and all rows decode.
use Rattle.std.proofs.Common.{sym, ◌∙◌}
use Rattle.std.proofs.lemmas.List.{nil_from_length}
use Rattle.inspect_text.specs.Text.{lines, trace_text}
use Rattle.inspect_text.proofs.unchecked.put_trace.Goals as goal

pub returns-then-end-eq0-clause-text : goal.returns-then-end-eq0-clause-text
unfolding trace_text
returns-then-end-eq0-clause-text c =
    let none = nil_from_length (lines c.args.trace.now) (sym c.put_lines-end.ensures.end.0 ∙ c.if-end-eq0.true) in
    rw (none, ← rw none at c.put_lines-end.ensures.text) c.put_bytes.ensures.text
