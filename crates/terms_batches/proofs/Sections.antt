-- The writer's commands: 01, 0B for a k, a section for each kind behind them, and 00.
use mathlib.Core.Path.{◌≡◌}
use mathlib.Core.List.{List, [], ◌∷◌, ◌++◌, append_assoc}
use Prim.Native.Nat.{ℕ}
use lib.ListN.{length}
use Rattle.table_rows.specs.Rows.{rows}
use Rattle.batch_words.specs.Words.{little_endian}
use Rattle.batch_commands.specs.Format.{TRACE-ROWS, OP-STACK, RAM, JUMP-STACK, SAMPLED, DIGEST, INPUT, OUTPUT, Command}
use Rattle.field_montgomery.specs.declared.Form.{Form}
use Rattle.field_montgomery.specs.Form.{in_form}
use Rattle.batch_commands.specs.Form.{row_command}
use Rattle.batch_reader.proofs.LaidOut.{end}
use Rattle.batch_sorted.specs.Sorted.{sorted}
use Rattle.batch_writer.specs.Contents.{Contents}
use Rattle.batch_writer.specs.Layout.{commands_of_height, commands_with, commands_for}

-- n commands of a kind, and the words that they bring
pub record Section : Type 0 where
  pub n : ℕ
  pub code : ℕ
  pub ws : List ℕ

abbrev pub section : ℕ → ℕ → List ℕ → Section
section n code ws = record { n = n; code = code; ws = ws }

abbrev pub joined : List Section → List Command
joined [] = []
joined (s ∷ ss) = commands_with s.n s.code s.ws ++ joined ss

abbrev pub sections_of : Form → Contents → List Section
sections_of form contents =
    section 1 DIGEST contents.digest
    ∷ section (length contents.input) INPUT contents.input
    ∷ section (length contents.output) OUTPUT contents.output
    ∷ section 1 SAMPLED contents.sampled
    ∷ section (rows contents.trace) (row_command form) (in_form form contents.trace)
    ∷ section (length contents.op_stack) OP-STACK (sorted contents.op_stack)
    ∷ section (length contents.ram) RAM (sorted contents.ram)
    ∷ section (length contents.jump_stack) JUMP-STACK (sorted contents.jump_stack)
    ∷ []

abbrev pub announcing : ℕ → Command
announcing n = record { code = TRACE-ROWS; operand = little_endian 4 n }

pub commands_of_lem : (form : Form) (contents : Contents) → commands_for form contents ≡ announcing (rows contents.trace) ∷ (commands_of_height contents.log2_height ++ joined (sections_of form contents)) ++ (end ∷ [])
unfolding commands_for
commands_of_lem form contents = simp append_assoc
