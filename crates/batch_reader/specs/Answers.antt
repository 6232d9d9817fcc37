-- What a reading answers and brings.
use Rattle.std.specs.Prelude.{List, ◌++◌, ℕ, length, drop, get_or, Result, Ok, Err}
use Rattle.batch_reader.specs.declared.Counts.{Counts}
use Rattle.batch_commands.specs.Format.{OP-STACK, RAM, JUMP-STACK, INPUT, OUTPUT}
use Rattle.batch_commands.specs.Fault.{rows_in}
use Rattle.batch_reader.specs.Commands.{count, counts, contents, height_of, slice_from}
use Rattle.batch_reader.specs.Reading.{Reading, read, refused, reading, commands_of}
use Rattle.refusal.specs.declared.Refusal.{Refusal}

-- "six counts: rows, op stack, RAM, jump stack, input, output", where each command came as often as `came` says. Document 02, Five: "Opening answers k as a seventh count"
abbrev pub counts_in : List ℕ → ℕ → Counts
counts_in came k =
    record {
      rows = rows_in came;
      op_stack = get_or came OP-STACK 0;
      ram = get_or came RAM 0;
      jump_stack = get_or came JUMP-STACK 0;
      input = get_or came INPUT 0;
      output = get_or came OUTPUT 0;
      log2_height = k;
    }

abbrev pub answer_of : Reading → Result Counts Refusal
answer_of (read commands) = Ok (counts_in (counts commands) (height_of commands))
answer_of (refused refusal) = Err refusal

-- what the batch brings for one of the slices
unfoldable pub brought : ℕ → List ℕ → List ℕ
unfolding contents count reading
brought code batch = slice_from code (commands_of (reading batch))

-- a slice with words from its start on; "Slice words past the counts stay."
abbrev pub written : List ℕ → List ℕ → List ℕ
written ws slice = ws ++ drop (length ws) slice
