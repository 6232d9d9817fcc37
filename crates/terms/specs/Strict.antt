-- Document 02, Two: "A strict extension is added which turns away such rows; elsewhere its cells are the ordinary ones. Answers: 11, strict extension only,
-- some row undecodable, after 2 and before 6."
use Rattle.std.specs.Prelude.{◌≡◌, ◌↔◌, ◌≢◌, List, ℕ, ◌<◌, Ok, Err}
use Rattle.refusal.specs.Tests.{NoneHolds}
use Rattle.refusal.specs.declared.Refusal.TheVariants.{UndecodableRow}
use Rattle.isa.specs.declared.Instruction.{Instruction}
use Rattle.table_rows.specs.Rows.{rows, row_at}
use Rattle.column_entries.specs.Row.{instruction_of}
use Rattle.extend_answer.specs.Answer.{tests_through_two, extend_answer}
use Rattle.extend_answer.specs.Strict.{strict_answer}
use Rattle.extend.specs.Extend.{extend_aux, extend_work, strict_aux, strict_work}

-- no instruction is read from row c
abbrev pub Undecodable : List ℕ → ℕ → Type 0
Undecodable main c = (i : Instruction) → instruction_of (row_at main c) ≢ Ok i

-- none of the refusals before 11 holds: 1, 3, 5, 1 for work, and 2
abbrev pub PastTwo : List ℕ → List ℕ → ℕ → List ℕ → List ℕ → Type 0
PastTwo main challenges chunk aux work = NoneHolds (tests_through_two main challenges chunk aux work)

module _ (main challenges : List ℕ) (chunk : ℕ) (aux work : List ℕ) where
  -- 11 is answered exactly if some row does not decode and none of the refusals before it holds
  abbrev pub Eleven : Type 0
  Eleven =
      (strict_answer main challenges chunk aux work ≡ Err UndecodableRow)
      ↔ (PastTwo main challenges chunk aux work × (c : ℕ) × (c < rows main) × Undecodable main c)

  -- elsewhere answer and slices are extension's
  abbrev pub Elsewhere : Type 0
  Elsewhere =
      strict_answer main challenges chunk aux work ≢ Err UndecodableRow
      → (strict_answer main challenges chunk aux work ≡ extend_answer main challenges chunk aux work)
      × (strict_aux main challenges chunk aux work ≡ extend_aux main challenges chunk aux work)
      × (strict_work main challenges chunk aux work ≡ extend_work main challenges chunk aux work)

pub record Strict : Type 0 where
  pub eleven : (main challenges : List ℕ) (chunk : ℕ) (aux work : List ℕ) → Eleven main challenges chunk aux work
  pub elsewhere : (main challenges : List ℕ) (chunk : ℕ) (aux work : List ℕ) → Elsewhere main challenges chunk aux work
