-- Over no entries each argument is where it starts.
use mathlib.Core.Path.{refl}
use Rattle.cross_table_argument.specs.CrossTable.{evaluation, running_product, running_sum}
use Rattle.column_entries.specs.Columns.{running}
use Rattle.extend_cells.proofs.first_cells.Goals as goal

pub returns : goal.returns
unfolding running evaluation running_product running_sum
returns c = refl
