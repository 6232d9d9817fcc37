-- Where nothing is refused, the rows are replaced, then row 1's multiplicity grows.
use Rattle.std.proofs.Common.{sym, ◌∙◌}
use Rattle.table_pad.specs.Pad.{pad_table, padded}
use Rattle.table_pad.proofs.Padded.{shaped, copied_down}
use Rattle.table_pad.proofs.pad.Goals as goal

pub returns-clause-padded : goal.returns-clause-padded
unfolding pad_table padded
returns-clause-padded c =
    let table = c.args.table.now in
    let len = c.args.table_len in
    let done = sym c.pad_answer.ensures ∙ c.in_ok-pad_answer.was in
    c.raise_multiplicity.ensures ∙ rw (done, copied_down table len (shaped table len done), c.copy_down.ensures)
