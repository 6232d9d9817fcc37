-- The cells of the last row into a lent slice: 1 unless it has 33 words, before all else.
use Rattle.std.specs.Prelude.{cond, List, ℕ, eqb, length, Result, Err}
use Rattle.refusal.specs.Number.{on_done}
use Rattle.refusal.specs.declared.Refusal.TheVariants.{SliceLength}
use Rattle.refusal.specs.declared.Refusal.{Refusal}
use Rattle.air.specs.AuxColumn.{AUX-WORDS}
use Rattle.terminals_cells.specs.Terminals.{terminals_answer, terminals_cells}

unfoldable pub terminals_into : List ℕ → List ℕ → Result (Unit {0}) Refusal
terminals_into batch cells = cond (eqb (length cells) AUX-WORDS) (terminals_answer batch) (Err SliceLength)

unfoldable pub cells_into : List ℕ → List ℕ → List ℕ
unfolding terminals_into
cells_into batch cells = on_done (terminals_into batch cells) (terminals_cells batch) cells
