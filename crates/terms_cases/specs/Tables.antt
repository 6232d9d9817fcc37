-- Small tables and records of challenges for the cases.
use Rattle.std.specs.Prelude.{cond, List, [], ◌∷◌, ◌++◌, map, ℕ, ◌+◌, ◌-◌, ◌*◌, eqb, length, replicate, set}
use Rattle.field.specs.Element.{element_at}
use Rattle.field.specs.declared.XFieldElement.{XFieldElement}
use Rattle.air.specs.Count.{up_to}
use Rattle.air.specs.ChallengeId.{COUNT}
use Rattle.air.specs.AuxColumn.{AUX-WORDS}
use Rattle.air.specs.MainColumn.{CLK, IS-PADDING, CI, NIA, CLOCK-JUMP-DIFFERENCE-LOOKUP-MULTIPLICITY}
use Rattle.table_rows.specs.Rows.{started_chunks}
use Rattle.column_entries.specs.Columns.{Column, indeterminate_of}
use Rattle.extend_answer.specs.Answer.{WORK-WORDS}
use Rattle.extend.specs.Extend.{extend_aux}

-- a row of zeros but for its stack from ST0 on
abbrev pub row : List ℕ → List ℕ
row stack = replicate 15 0 ++ stack ++ replicate (24 - length stack) 0

-- two rows: CI, NIA and stack of the previous one, stack of the current one
abbrev pub window : ℕ → ℕ → List ℕ → List ℕ → List ℕ
window ci nia prev curr = set (set (row prev) CI ci) NIA nia ++ row curr

-- Xor of 6 and 3, result 5
abbrev pub xor : List ℕ
xor = window 22 0 (6 ∷ 3 ∷ []) (5 ∷ [])

-- one row of zeros, padded to two
abbrev pub example : List ℕ
example = row [] ++ set (set (set (row []) CLK 1) IS-PADDING 1) CLOCK-JUMP-DIFFERENCE-LOOKUP-MULTIPLICITY 1

-- each word as an element
abbrev pub elements : List ℕ → List ℕ
elements [] = []
elements (w ∷ ws) = w ∷ 0 ∷ 0 ∷ elements ws

-- 63 challenges, each (2, 0, 0)
abbrev pub twos : List ℕ
twos = elements (replicate COUNT 2)

-- 63 challenges, no two the same: the column's own indeterminate is 10, any other challenge i is 100 + i
abbrev pub ten : Column → List ℕ
ten c = elements (map (λ i. cond (eqb i (indeterminate_of c)) 10 (100 + i)) (up_to COUNT))

-- what extension of two rows leaves in the auxiliary table
abbrev pub extension : List ℕ → List ℕ → List ℕ
extension challenges table = extend_aux table challenges 4 (replicate (2 * AUX-WORDS) 0) (replicate (started_chunks 2 4 * WORK-WORDS) 0)

-- and in row 1 at a column's place, under the column's indeterminate 10
abbrev pub last_cell : Column → ℕ → List ℕ → XFieldElement
last_cell c place table = element_at (extension (ten c) table) (AUX-WORDS + place * 3)
