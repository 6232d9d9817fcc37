-- The text of a batch.
use Rattle.std.specs.Prelude.{List, ℕ}
use Rattle.terminals_text.specs.Text.{text_of}
use Rattle.terminals_cells.specs.Terminals.{terminals_answer, terminals_cells}

unfoldable pub terminals_text : List ℕ → List ℕ
terminals_text batch = text_of (terminals_answer batch) (terminals_cells batch)
