-- Opening, by the definitions that the contract of `open` cites, with what the eight lent slices hold as one record.
use Rattle.std.specs.Prelude.{List, ℕ, ◌*◌, ◌<◌, length, take, get_or, Result}
use Rattle.refusal.specs.declared.Refusal.{Refusal}
use Rattle.air.specs.MainColumn.{MAIN-WIDTH}
use Rattle.table_rows.specs.Rows.{rows}
use Rattle.batch_commands.specs.Format.{ROW, OP-STACK, RAM, JUMP-STACK, SAMPLED, DIGEST, INPUT, OUTPUT}
use Rattle.field_montgomery.specs.declared.Form.{Form}
use Rattle.batch_reader.specs.declared.Counts.{Counts}
use Rattle.batch_reader.specs.Commands.{form_of}
use Rattle.batch_reader.specs.Reading.{reading, commands_of}
use Rattle.batch.specs.Open.{open_answer, open_slice}
use Rattle.batch_writer.specs.Contents.{Contents}

-- numbers below 256
abbrev pub Bytes : List ℕ → Type 0
Bytes batch = (i : ℕ) → i < length batch → get_or batch i 0 < 256

-- what open answers
abbrev pub opened : List ℕ → Contents → Result Counts Refusal
opened batch lent =
    open_answer batch (length lent.trace) (length lent.op_stack) (length lent.ram) (length lent.jump_stack) (length lent.sampled)
    (length lent.digest) (length lent.input) (length lent.output)

-- what it leaves in the slices; k is none
abbrev pub slices_after : List ℕ → Contents → Contents
slices_after batch lent =
    let answer = opened batch lent in
    record {
      trace = open_slice answer ROW batch lent.trace;
      op_stack = open_slice answer OP-STACK batch lent.op_stack;
      ram = open_slice answer RAM batch lent.ram;
      jump_stack = open_slice answer JUMP-STACK batch lent.jump_stack;
      sampled = open_slice answer SAMPLED batch lent.sampled;
      digest = open_slice answer DIGEST batch lent.digest;
      input = open_slice answer INPUT batch lent.input;
      output = open_slice answer OUTPUT batch lent.output;
      log2_height = lent.log2_height;
    }

-- slices up to the counts; sampled and digest are whole, and k is the seventh count
abbrev pub up_to : Counts → Contents → Contents
up_to counts slices =
    record {
      trace = take (counts.rows * MAIN-WIDTH) slices.trace;
      op_stack = take counts.op_stack slices.op_stack;
      ram = take counts.ram slices.ram;
      jump_stack = take counts.jump_stack slices.jump_stack;
      sampled = slices.sampled;
      digest = slices.digest;
      input = take counts.input slices.input;
      output = take counts.output slices.output;
      log2_height = counts.log2_height;
    }

-- the form of a batch's rows, by its row command; open does not answer it
abbrev pub row_form : List ℕ → Form
row_form batch = form_of (commands_of (reading batch))

-- the seven counts of given contents
abbrev pub counts_of : Contents → Counts
counts_of contents =
    record {
      rows = rows contents.trace;
      op_stack = length contents.op_stack;
      ram = length contents.ram;
      jump_stack = length contents.jump_stack;
      input = length contents.input;
      output = length contents.output;
      log2_height = contents.log2_height;
    }
