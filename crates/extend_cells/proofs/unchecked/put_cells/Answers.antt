-- The columns one after the other make the row.
use borrow.Author.Rules.{rules}
use Rattle.column_entries.specs.AuxRow.{placed}
use Rattle.column_entries.proofs.AuxRow.{placed_row}
use Rattle.extend_cells.specs.Cells.{value_of}
use Rattle.extend_cells.proofs.unchecked.put_cells.Goals as goal

pub returns : goal.returns
unfolding placed
returns c =
    let args = c.args in
    cc (placed_row (value_of args.cells) args.aux.now args.c (search rules))
