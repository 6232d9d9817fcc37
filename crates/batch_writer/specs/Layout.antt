-- The batch of given contents, its rows in a given form: its commands in their order, laid out as bytes.
use Rattle.std.specs.Prelude.{cond, List, [], ◌∷◌, ◌++◌, ℕ, zero, suc, ◌/◌, eqb, length, take, drop}
use Rattle.field_montgomery.specs.declared.Form.{Form}
use Rattle.field_montgomery.specs.Form.{in_form}
use Rattle.table_rows.specs.Rows.{rows}
use Rattle.batch_words.specs.Words.{little_endian, bytes_of}
use Rattle.batch_commands.specs.Format.{END, TRACE-ROWS, OP-STACK, RAM, JUMP-STACK, SAMPLED, DIGEST, INPUT, OUTPUT, HEIGHT, width, Command, laid_out}
use Rattle.batch_commands.specs.Form.{row_command}
use Rattle.batch_sorted.specs.Sorted.{sorted}
use Rattle.batch_writer.specs.Contents.{Contents}

-- n commands of one kind, each with as many words as its operand holds
unfoldable pub commands_with : ℕ → ℕ → List ℕ → List Command
unfolding bytes_of
commands_with zero code ws = []
commands_with (suc n) code ws = record { code = code; operand = bytes_of (take (width code / 8) ws) } ∷ commands_with n code (drop (width code / 8) ws)

-- Document 02, Five: "k 0 means no 0B"
unfoldable pub commands_of_height : ℕ → List Command
unfolding little_endian
commands_of_height k = cond (eqb k 0) [] (record { code = HEIGHT; operand = little_endian 1 k } ∷ [])

-- "a batch runs 01, 07, all 08, all 09, 06, all rows, then all 03, all 04, all 05, each difference list not descending, then 00"; 0B "directly after 01"
unfoldable pub commands_for : Form → Contents → List Command
unfolding little_endian commands_of_height commands_with sorted
commands_for form contents =
    (record { code = TRACE-ROWS; operand = little_endian 4 (rows contents.trace) } ∷ [])
    ++ commands_of_height contents.log2_height
    ++ commands_with 1 DIGEST contents.digest
    ++ commands_with (length contents.input) INPUT contents.input
    ++ commands_with (length contents.output) OUTPUT contents.output
    ++ commands_with 1 SAMPLED contents.sampled
    ++ commands_with (rows contents.trace) (row_command form) (in_form form contents.trace)
    ++ commands_with (length contents.op_stack) OP-STACK (sorted contents.op_stack)
    ++ commands_with (length contents.ram) RAM (sorted contents.ram)
    ++ commands_with (length contents.jump_stack) JUMP-STACK (sorted contents.jump_stack)
    ++ (record { code = END; operand = [] } ∷ [])

unfoldable pub batch_of : Form → Contents → List ℕ
unfolding commands_for laid_out
batch_of form contents = laid_out (commands_for form contents)
