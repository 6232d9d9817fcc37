-- Extend, with chunk length 4, and the last row.
use Rattle.std.specs.Prelude.{List, ℕ, ◌-◌, ◌*◌, length, drop, Result}
use Rattle.refusal.specs.declared.Refusal.{Refusal}
use Rattle.air.specs.AuxColumn.{AUX-WORDS}
use Rattle.table_rows.specs.Rows.{rows, started_chunks}
use Rattle.extend_answer.specs.Answer.{extend_answer, WORK-WORDS}
use Rattle.extend.specs.Extend.{extend_aux}
use Rattle.batch.specs.Lent.{zeros}

-- the words of the last row
abbrev pub last_row : List ℕ → List ℕ
last_row aux = drop (length aux - AUX-WORDS) aux

-- extend, with chunk length 4
module _ (main challenges : List ℕ) where
  abbrev aux : List ℕ
  aux = zeros (rows main * AUX-WORDS)

  abbrev work : List ℕ
  work = zeros (started_chunks (rows main) 4 * WORK-WORDS)

  unfoldable pub extended_answer : Result (Unit {0}) Refusal
  extended_answer = extend_answer main challenges 4 aux work

  unfoldable pub extended_cells : List ℕ
  extended_cells = last_row (extend_aux main challenges 4 aux work)
