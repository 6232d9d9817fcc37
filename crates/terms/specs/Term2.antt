-- Term 2: each cell that extension writes is the cross-table argument over the entries up to and with its row, at every positive chunk length.
use Rattle.std.specs.Prelude.{◌≡◌, List, ℕ, suc, ◌*◌, ◌<◌, length}
use Rattle.refusal.specs.Number.{Done}
use Rattle.challenges.specs.Derived.{challenge_at}
use Rattle.table_rows.specs.Rows.{rows, started_chunks}
use Rattle.column_entries.specs.Columns.{Column, kind_of, indeterminate_of, weights, entries, argument}
use Rattle.extend_answer.specs.Answer.{WORK-WORDS, extend_answer}
use Rattle.extend.specs.Extend.{extend_aux}
use Rattle.column_entries.specs.AuxRow.{cell_at}

pub record Term2 : Type 0 where
  -- where extension is done, row r of column c has the column's argument, under its own indeterminate and weights, over the entries of rows 0 to r
  pub cells : (main challenges : List ℕ) (chunk : ℕ) (aux work : List ℕ) → extend_answer main challenges chunk aux work ≡ Done
      → (c : Column) (r : ℕ) → r < rows main
      → cell_at c (extend_aux main challenges chunk aux work) r
      ≡ argument (kind_of c) (challenge_at challenges (indeterminate_of c)) (entries c (weights c challenges) main (suc r))
  -- with work of its own right length at each, what it answers at one positive chunk length it answers at every other, and it is done at none but these
  pub every_chunk : (main challenges : List ℕ) (chunk₁ chunk₂ : ℕ) (aux work₁ work₂ : List ℕ) → 0 < chunk₁ → 0 < chunk₂
      → length work₁ ≡ started_chunks (rows main) chunk₁ * WORK-WORDS → length work₂ ≡ started_chunks (rows main) chunk₂ * WORK-WORDS
      → extend_answer main challenges chunk₁ aux work₁ ≡ extend_answer main challenges chunk₂ aux work₂
  pub positive : (main challenges : List ℕ) (chunk : ℕ) (aux work : List ℕ) → extend_answer main challenges chunk aux work ≡ Done → 0 < chunk
