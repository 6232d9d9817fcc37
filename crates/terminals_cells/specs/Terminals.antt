-- "opens a batch, derives the challenges, fills, pads, extends with chunk length 4": the first refusal, or the last row's cells.
use Rattle.std.specs.Prelude.{List, [], ℕ, ◌*◌, take, Result, Ok, Err}
use Rattle.refusal.specs.declared.Refusal.{Refusal}
use Rattle.air.specs.MainColumn.{MAIN-WIDTH}
use Rattle.air.specs.ChallengeId.{RECORD-WORDS, SAMPLED-WORDS, DIGEST-WORDS}
use Rattle.table_rows.specs.Rows.{rows}
use Rattle.table_fill.specs.Fill.{fill_answer, fill_table}
use Rattle.table_pad.specs.Pad.{pad_answer, pad_table}
use Rattle.challenges.specs.Derived.{challenges_answer, challenges_record}
use Rattle.batch_reader.specs.declared.Counts.{Counts}
use Rattle.batch_commands.specs.Format.{ROW, OP-STACK, RAM, JUMP-STACK, SAMPLED, DIGEST, INPUT, OUTPUT, MAX-DIFFERENCES, MAX-WORDS}
use Rattle.batch.specs.Open.{TRACE-WORDS, open_answer, open_slice}
use Rattle.batch.specs.Lent.{zeros}
use Rattle.terminals_extended.specs.Extended.{extended_answer, extended_cells}
use Rattle.table_pad.specs.Height.{padded_height}

-- the first refusal of two operations
abbrev pub after : Result (Unit {0}) Refusal → Result (Unit {0}) Refusal → Result (Unit {0}) Refusal
after (Ok u) next = next
after (Err refusal) next = Err refusal

-- pad, then extend
module _ (table : List ℕ) (len : ℕ) (challenges : List ℕ) where
  unfoldable pub padded_answer : Result (Unit {0}) Refusal
  padded_answer = after (pad_answer table len) (extended_answer (pad_table table len) challenges)

  unfoldable pub padded_cells : List ℕ
  padded_cells = extended_cells (pad_table table len) challenges

-- fill, pad and extend
module _ (trace op_stack ram jump_stack challenges table : List ℕ) where
  unfoldable pub filled_answer : Result (Unit {0}) Refusal
  filled_answer =
      after (fill_answer trace op_stack ram jump_stack table)
      (padded_answer (fill_table trace op_stack ram jump_stack table) (rows trace) challenges)

  unfoldable pub filled_cells : List ℕ
  filled_cells = padded_cells (fill_table trace op_stack ram jump_stack table) (rows trace) challenges

-- the same in the table that holds the trace, or has 2^k rows
module _ (k : ℕ) (trace op_stack ram jump_stack challenges : List ℕ) where
  unfoldable pub table_answer : Result (Unit {0}) Refusal
  table_answer = filled_answer trace op_stack ram jump_stack challenges (zeros (padded_height k (rows trace) * MAIN-WIDTH))

  unfoldable pub table_cells : List ℕ
  table_cells = filled_cells trace op_stack ram jump_stack challenges (zeros (padded_height k (rows trace) * MAIN-WIDTH))

-- the slices up to the counts: derive the challenges, fill, pad and extend
module _ (counts : Counts) (trace op_stack ram jump_stack sampled digest input output : List ℕ) where
  unfoldable pub opened_answer : Result (Unit {0}) Refusal
  opened_answer =
      let read = take counts.input input in
      let wrote = take counts.output output in
      after (challenges_answer sampled digest read wrote (zeros RECORD-WORDS))
      (table_answer counts.log2_height (take (counts.rows * MAIN-WIDTH) trace) (take counts.op_stack op_stack) (take counts.ram ram) (take counts.jump_stack jump_stack)
      (challenges_record sampled digest read wrote (zeros RECORD-WORDS)))

  unfoldable pub opened_cells : List ℕ
  opened_cells =
      let read = take counts.input input in
      let wrote = take counts.output output in
      table_cells counts.log2_height (take (counts.rows * MAIN-WIDTH) trace) (take counts.op_stack op_stack) (take counts.ram ram) (take counts.jump_stack jump_stack)
      (challenges_record sampled digest read wrote (zeros RECORD-WORDS))

-- with what opening leaves in slices of zeros
abbrev pub answer_after : Result Counts Refusal → List ℕ → Result (Unit {0}) Refusal
answer_after (Err refusal) batch = Err refusal
answer_after (Ok counts) batch =
    let slice : ℕ → ℕ → List ℕ = λ code n. open_slice (Ok counts) code batch (zeros n) in
    opened_answer counts (slice ROW TRACE-WORDS) (slice OP-STACK MAX-DIFFERENCES) (slice RAM MAX-DIFFERENCES) (slice JUMP-STACK MAX-DIFFERENCES) (slice SAMPLED SAMPLED-WORDS) (slice DIGEST DIGEST-WORDS) (slice INPUT MAX-WORDS) (slice OUTPUT MAX-WORDS)

abbrev pub cells_after : Result Counts Refusal → List ℕ → List ℕ
cells_after (Err refusal) batch = []
cells_after (Ok counts) batch =
    let slice : ℕ → ℕ → List ℕ = λ code n. open_slice (Ok counts) code batch (zeros n) in
    opened_cells counts (slice ROW TRACE-WORDS) (slice OP-STACK MAX-DIFFERENCES) (slice RAM MAX-DIFFERENCES) (slice JUMP-STACK MAX-DIFFERENCES) (slice SAMPLED SAMPLED-WORDS) (slice DIGEST DIGEST-WORDS) (slice INPUT MAX-WORDS) (slice OUTPUT MAX-WORDS)

unfoldable pub terminals_answer : List ℕ → Result (Unit {0}) Refusal
terminals_answer batch = answer_after (open_answer batch TRACE-WORDS MAX-DIFFERENCES MAX-DIFFERENCES MAX-DIFFERENCES SAMPLED-WORDS DIGEST-WORDS MAX-WORDS MAX-WORDS) batch

-- the words of the last row's eleven cells
unfoldable pub terminals_cells : List ℕ → List ℕ
terminals_cells batch = cells_after (open_answer batch TRACE-WORDS MAX-DIFFERENCES MAX-DIFFERENCES MAX-DIFFERENCES SAMPLED-WORDS DIGEST-WORDS MAX-WORDS MAX-WORDS) batch
