-- Pad: the last row of the trace copied downward, and row 1's multiplicity grown by the number of padding rows.
use Rattle.std.specs.Prelude.{cond, ◌||◌, List, [], ◌∷◌, ℕ, ◌-◌, ◌*◌, eqb, ltb, take, set, Result}
use Rattle.field_base.specs.Words.{all_below}
use Rattle.refusal.specs.Tests.{on_done, is_long, Tests, ◌when◌, ◌unless◌, first}
use Rattle.refusal.specs.declared.Refusal.TheVariants.{SliceLength, RowCount, WordNotBelowP}
use Rattle.air.specs.MainColumn.{CLK, IS-PADDING, CLOCK-JUMP-DIFFERENCE-LOOKUP-MULTIPLICITY, MAIN-WIDTH}
use Rattle.table_rows.specs.Rows.{whole_rows, rows, row_at, rows_from}
use Rattle.table_rows.specs.Writes.{raised}
use Rattle.refusal.specs.declared.Refusal.{Refusal}

-- "1 unless the table is whole rows; 3 if rows are under 2 or long, or table_len is 0 or above rows; 2 in the first table_len rows."
abbrev pub pad_tests : List ℕ → ℕ → Tests
pad_tests table len =
    (SliceLength unless whole_rows table)
    ∷ (RowCount when ltb (rows table) 2 || is_long (rows table) || eqb len 0 || ltb (rows table) len)
    ∷ (WordNotBelowP unless all_below (take (len * MAIN-WIDTH) table))
    ∷ []

unfoldable pub pad_answer : List ℕ → ℕ → Result (Unit {0}) Refusal
pad_answer table len = first (pad_tests table len)

-- a row like `last` with IsPadding 1, multiplicity 0 and CLK c
abbrev pub padding_row : List ℕ → ℕ → List ℕ
padding_row last c = set (set (set last IS-PADDING 1) CLOCK-JUMP-DIFFERENCE-LOOKUP-MULTIPLICITY 0) CLK c

-- row c of the padded table
abbrev pub padded_row : List ℕ → ℕ → ℕ → List ℕ
padded_row table len c = cond (ltb c len) (row_at table c) (padding_row (row_at table (len - 1)) c)

unfoldable pub padded : List ℕ → ℕ → List ℕ
unfolding rows_from
padded table len = raised (rows_from (padded_row table len) 0 (rows table)) 1 (rows table - len)

-- what the table holds then
unfoldable pub pad_table : List ℕ → ℕ → List ℕ
unfolding pad_answer padded
pad_table table len = on_done (pad_answer table len) (padded table len) table
