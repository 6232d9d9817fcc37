-- Fill: the trace, with each row's multiplicity counted from the three difference lists.
use Rattle.std.specs.Prelude.{Bool, true, cond, not, ◌&&◌, ◌||◌, List, [], ◌∷◌, ◌++◌, ℕ, ◌+◌, eqb, ltb, length, drop, set, Result}
use Rattle.field_base.specs.Words.{all_below}
use Rattle.refusal.specs.Tests.{on_done, is_long, Tests, ◌when◌, ◌unless◌, first}
use Rattle.refusal.specs.declared.Refusal.TheVariants.{SliceLength, RowCount, WordNotBelowP, DifferenceTooLarge}
use Rattle.air.specs.MainColumn.{CLOCK-JUMP-DIFFERENCE-LOOKUP-MULTIPLICITY}
use Rattle.table_rows.specs.Rows.{whole_rows, rows, row_at, rows_from}
use Rattle.refusal.specs.declared.Refusal.{Refusal}

-- how often c stands in a list
unfoldable pub count : ℕ → List ℕ → ℕ
count c [] = 0
count c (d ∷ ds) = cond (eqb d c) 1 0 + count c ds

unfoldable pub multiplicity : List ℕ → List ℕ → List ℕ → ℕ → ℕ
unfolding count
multiplicity op_stack ram jump_stack c = count c op_stack + count c ram + count c jump_stack

-- whether every difference is below n
unfoldable pub all_under : ℕ → List ℕ → Bool
all_under n [] = true
all_under n (d ∷ ds) = ltb d n && all_under n ds

-- "1 if trace or table is not whole rows or a list is long; 3 if the table is long in rows or shorter than the trace; 2 in trace or lists;
-- 4 if a difference is not below the trace rows."
abbrev pub fill_tests : List ℕ → List ℕ → List ℕ → List ℕ → List ℕ → Tests
fill_tests trace op_stack ram jump_stack table =
    (SliceLength when not (whole_rows trace && whole_rows table) || is_long (length op_stack) || is_long (length ram) || is_long (length jump_stack))
    ∷ (RowCount when is_long (rows table) || ltb (rows table) (rows trace))
    ∷ (WordNotBelowP unless all_below trace && all_below op_stack && all_below ram && all_below jump_stack)
    ∷ (DifferenceTooLarge unless all_under (rows trace) op_stack && all_under (rows trace) ram && all_under (rows trace) jump_stack)
    ∷ []

unfoldable pub fill_answer : List ℕ → List ℕ → List ℕ → List ℕ → List ℕ → Result (Unit {0}) Refusal
unfolding all_under
fill_answer trace op_stack ram jump_stack table = first (fill_tests trace op_stack ram jump_stack table)

-- row c of the trace with multiplicity m
abbrev pub filled_row : List ℕ → (ℕ → ℕ) → ℕ → List ℕ
filled_row trace m c = set (row_at trace c) CLOCK-JUMP-DIFFERENCE-LOOKUP-MULTIPLICITY (m c)

-- later rows are untouched
unfoldable pub filled : List ℕ → (ℕ → ℕ) → List ℕ → List ℕ
unfolding rows_from
filled trace m table = rows_from (filled_row trace m) 0 (rows trace) ++ drop (length trace) table

-- what the table holds then
unfoldable pub fill_table : List ℕ → List ℕ → List ℕ → List ℕ → List ℕ → List ℕ
unfolding fill_answer filled multiplicity
fill_table trace op_stack ram jump_stack table =
    on_done (fill_answer trace op_stack ram jump_stack table) (filled trace (multiplicity op_stack ram jump_stack) table) table
