-- The batch of given contents, part by part, and its length.
use mathlib.Core.Path.{◌≡◌, refl, ap, ◌∙◌}
use mathlib.Core.List.{List, [], ◌∷◌, ◌++◌, append-nil}
use Prim.Native.Nat.{ℕ, ◌+◌, ◌%◌}
use native.Mathlib.Omega.{arith}
use lib.ListN.{length, length-append}
use Rattle.table_rows.specs.Rows.{rows}
use Rattle.batch_words.specs.Words.{little_endian}
use Rattle.batch_words.proofs.Writing.{length-little_endian}
use Rattle.batch_commands.specs.Format.{END, TRACE-ROWS, OP-STACK, RAM, JUMP-STACK, SAMPLED, DIGEST, INPUT, OUTPUT, Command, laid_out}
use Rattle.field_montgomery.specs.declared.Form.{Form}
use Rattle.field_montgomery.specs.Form.{in_form}
use Rattle.batch_commands.specs.Form.{row_command}
use Rattle.batch_commands.proofs.Laid.{laid_append}
use Rattle.batch_sorted.specs.Sorted.{sorted}
use Rattle.batch_sorted.proofs.Lengths.{length-sorted}
use Rattle.batch_writer.specs.Contents.{Contents}
use Rattle.batch_lengths.specs.Lengths.{batch_length}
use Rattle.batch_writer.specs.Layout.{commands_of_height, commands_with, batch_of}
use Rattle.batch_writer.proofs.Laying.{length-height, length-laid, length-laid_rows}

laid_all : (a b c d e f g h i j k : List Command) → laid_out (a ++ b ++ c ++ d ++ e ++ f ++ g ++ h ++ i ++ j ++ k) ≡ laid_out a ++ laid_out b ++ laid_out c ++ laid_out d ++ laid_out e ++ laid_out f ++ laid_out g ++ laid_out h ++ laid_out i ++ laid_out j ++ laid_out k
laid_all a b c d e f g h i j k = simp laid_append

length-all : (a b c d e f g h i j k : List ℕ) → length (a ++ b ++ c ++ d ++ e ++ f ++ g ++ h ++ i ++ j ++ k) ≡ length a + length b + length c + length d + length e + length f + length g + length h + length i + length j + length k
length-all a b c d e f g h i j k = simp length-append

single : (k : Command) → laid_out (k ∷ []) ≡ k.code ∷ k.operand
unfolding laid_out
single k = ap (◌∷◌ k.code) (append-nil k.operand)

abbrev kind : ℕ → ℕ → List ℕ → List ℕ
kind n code ws = laid_out (commands_with n code ws)

module _ (form : Form) (c : Contents) where
  abbrev first : Command
  first = record { code = TRACE-ROWS; operand = little_endian 4 (rows c.trace) }

  abbrev last : Command
  last = record { code = END; operand = [] }

  abbrev commands : List Command
  commands =
      (first ∷ [])
      ++ commands_of_height c.log2_height
      ++ commands_with 1 DIGEST c.digest
      ++ commands_with (length c.input) INPUT c.input
      ++ commands_with (length c.output) OUTPUT c.output
      ++ commands_with 1 SAMPLED c.sampled
      ++ commands_with (rows c.trace) (row_command form) (in_form form c.trace)
      ++ commands_with (length c.op_stack) OP-STACK (sorted c.op_stack)
      ++ commands_with (length c.ram) RAM (sorted c.ram)
      ++ commands_with (length c.jump_stack) JUMP-STACK (sorted c.jump_stack)
      ++ (last ∷ [])

  as_commands : batch_of form c ≡ laid_out commands
  unfolding batch_of
  as_commands = refl

  -- up to the last command of a kind
  abbrev pub up_to01 : List ℕ
  up_to01 = TRACE-ROWS ∷ little_endian 4 (rows c.trace)

  abbrev pub up_to0_b : List ℕ
  up_to0_b = up_to01 ++ laid_out (commands_of_height c.log2_height)

  abbrev pub up_to07 : List ℕ
  up_to07 = up_to0_b ++ kind 1 DIGEST c.digest

  abbrev pub up_to08 : List ℕ
  up_to08 = up_to07 ++ kind (length c.input) INPUT c.input

  abbrev pub up_to09 : List ℕ
  up_to09 = up_to08 ++ kind (length c.output) OUTPUT c.output

  abbrev pub up_to06 : List ℕ
  up_to06 = up_to09 ++ kind 1 SAMPLED c.sampled

  abbrev pub up_to02 : List ℕ
  up_to02 = up_to06 ++ kind (rows c.trace) (row_command form) (in_form form c.trace)

  abbrev pub up_to03 : List ℕ
  up_to03 = up_to02 ++ kind (length c.op_stack) OP-STACK (sorted c.op_stack)

  abbrev pub up_to04 : List ℕ
  up_to04 = up_to03 ++ kind (length c.ram) RAM (sorted c.ram)

  abbrev pub up_to05 : List ℕ
  up_to05 = up_to04 ++ kind (length c.jump_stack) JUMP-STACK (sorted c.jump_stack)

  pub in_parts : batch_of form c ≡ up_to05 ++ (END ∷ [])
  in_parts =
      as_commands
      ∙ laid_all (first ∷ []) (commands_of_height c.log2_height) (commands_with 1 DIGEST c.digest) (commands_with (length c.input) INPUT c.input) (commands_with (length c.output) OUTPUT c.output) (commands_with 1 SAMPLED c.sampled) (commands_with (rows c.trace) (row_command form) (in_form form c.trace)) (commands_with (length c.op_stack) OP-STACK (sorted c.op_stack)) (commands_with (length c.ram) RAM (sorted c.ram)) (commands_with (length c.jump_stack) JUMP-STACK (sorted c.jump_stack)) (last ∷ [])
      ∙ rw (single first, single last)

  pub length-batch_of : length c.trace % 39 ≡ 0 → length c.sampled ≡ 177 → length c.digest ≡ 5
      → length (batch_of form c) ≡ batch_length c.log2_height (rows c.trace) (length c.op_stack + length c.ram + length c.jump_stack + length c.input + length c.output)
  length-batch_of whole sampled digest =
      ap length in_parts
      ∙ length-all (TRACE-ROWS ∷ little_endian 4 (rows c.trace)) (laid_out (commands_of_height c.log2_height)) (kind 1 DIGEST c.digest) (kind (length c.input) INPUT c.input) (kind (length c.output) OUTPUT c.output) (kind 1 SAMPLED c.sampled) (kind (rows c.trace) (row_command form) (in_form form c.trace)) (kind (length c.op_stack) OP-STACK (sorted c.op_stack)) (kind (length c.ram) RAM (sorted c.ram)) (kind (length c.jump_stack) JUMP-STACK (sorted c.jump_stack)) (END ∷ [])
      ∙ omega (
        arith,
        length-little_endian 4 (rows c.trace),
        length-height c.log2_height,
        length-laid 1 DIGEST c.digest refl (omega arith),
        length-laid (length c.input) INPUT c.input refl (omega arith),
        length-laid (length c.output) OUTPUT c.output refl (omega arith),
        length-laid 1 SAMPLED c.sampled refl (omega arith),
        length-laid_rows form (rows c.trace) c.trace (omega arith),
        length-laid (length c.op_stack) OP-STACK (sorted c.op_stack) refl (omega (arith, length-sorted c.op_stack)),
        length-laid (length c.ram) RAM (sorted c.ram) refl (omega (arith, length-sorted c.ram)),
        length-laid (length c.jump_stack) JUMP-STACK (sorted c.jump_stack) refl (omega (arith, length-sorted c.jump_stack)),
      )
