-- What is proved of the text. The proof is in proofs/Theorems.antt.
use Rattle.std.specs.Prelude.{◌≡◌, ◌↔◌, List, ℕ, ◌<◌, get_or, Ok}
use Rattle.air.specs.MainColumn.{CI, NIA}
use Rattle.isa.specs.declared.Instruction.{Instruction}
use Rattle.isa_decoding.specs.Decode.{decoded}
use Rattle.table_rows.specs.Rows.{rows, row_at}
use Rattle.text.specs.Ascii.{ascii}
use Rattle.inspect_text.specs.Text.{trace_text}

-- a row's words decode to an instruction
pub record Decodes (words : List ℕ) : Type 0 where
  pub instruction : Instruction
  pub read : decoded (get_or words CI 0) (get_or words NIA 0) ≡ Ok instruction

-- `all rows decode` is said exactly if every row decodes
abbrev pub AllDecode : Type 0
AllDecode = (trace : List ℕ) → (trace_text trace ≡ ascii "all rows decode\n") ↔ ((row : ℕ) → row < rows trace → Decodes (row_at trace row))
