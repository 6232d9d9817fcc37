-- Document 02, Seven: "Yes must hold if and only if extension would produce just these columns. A zero denominator, which could empty that relation, answers 6,
-- in extension's order. Lengths and words are refused as in extension, work and chunk apart".
use Rattle.std.specs.Prelude.{◌≡◌, ◌↔◌, true, List, ℕ, ◌*◌, ◌<◌, length, Ok, Err, Option, Some, None}
use Rattle.refusal.specs.declared.Refusal.{Refusal}
use Rattle.refusal.specs.Number.{Done}
use Rattle.field_base.specs.Words.{all_below}
use Rattle.air.specs.AuxColumn.{AUX-WORDS}
use Rattle.air.specs.declared.AuxIndex.{AuxIndex}
use Rattle.table_rows.specs.Rows.{rows, started_chunks}
use Rattle.column_entries.specs.Columns.{Column, running, cell}
use Rattle.column_entries.specs.AuxRow.{cell_at}
use Rattle.extend_answer.specs.Answer.{WORK-WORDS, extend_answer}
use Rattle.extend.specs.Extend.{extend_aux}
use Rattle.check_relations.specs.Offered.{cell_before, holds}
use Rattle.check_relations.specs.First.{index_of, FailsFirst, place}
use Rattle.check_relations.specs.declared.Place.{Place}
use Rattle.check_columns.specs.Check.{check_answer}

-- a positive chunk length, an auxiliary table of 33 words a row, work of the right length
pub record Lent (main : List ℕ) (chunk : ℕ) (aux work : List ℕ) : Type 0 where
  pub chunk_length : 0 < chunk
  pub aux_length : length aux ≡ rows main * AUX-WORDS
  pub work_length : length work ≡ started_chunks (rows main) chunk * WORK-WORDS

pub record Check : Type 0 where
  -- the check says yes exactly if extension is done and leaves just the offered columns
  pub yes : (main challenges offered : List ℕ) (chunk : ℕ) (aux work : List ℕ) → Lent main chunk aux work
      → (check_answer main challenges offered ≡ Ok None)
      ↔ ((extend_answer main challenges chunk aux work ≡ Done) × (extend_aux main challenges chunk aux work ≡ offered))
  -- where the offered columns have 33 words a row, all below p, it refuses what extension refuses
  pub refusals : (main challenges offered : List ℕ) (chunk : ℕ) (aux work : List ℕ) → Lent main chunk aux work
      → length offered ≡ rows main * AUX-WORDS → all_below offered ≡ true → (r : Refusal)
      → (check_answer main challenges offered ≡ Err r) ↔ (extend_answer main challenges chunk aux work ≡ Err r)
  -- where it refuses nothing: given that the cell before is extension's, a relation holds exactly if the cell is
  pub relations : (main challenges offered : List ℕ) (v : Option Place) → check_answer main challenges offered ≡ Ok v
      → (c : Column) (r : ℕ) → r < rows main → cell_before c offered r ≡ running c challenges main r
      → (holds challenges main offered r c ≡ true) ↔ (cell_at c offered r ≡ cell c challenges main r)
  -- it says no exactly with the first row, and in it the first column, whose relation fails
  pub no : (main challenges offered : List ℕ) (v : Option Place) → check_answer main challenges offered ≡ Ok v
      → (r : ℕ) (k : AuxIndex) → (v ≡ Some (place r k)) ↔ ((c : Column) × (index_of c ≡ k) × FailsFirst challenges main offered r c)
