-- Where nothing is refused, there are 33 words.
use mathlib.Core.Path.{◌≡◌}
use mathlib.Core.List.{List}
use Prim.Native.Nat.{ℕ, ◌*◌}
use lib.ListN.{length, take}
use Rattle.std.specs.Prelude.{Result, Ok, Err}
use Rattle.refusal.specs.declared.Refusal.{Refusal}
use Rattle.refusal.specs.Number.{Done}
use Rattle.air.specs.ChallengeId.{RECORD-WORDS}
use Rattle.table_rows.specs.Rows.{rows}
use Rattle.table_fill.specs.Fill.{fill_answer, fill_table}
use Rattle.table_pad.specs.Pad.{pad_answer, pad_table}
use Rattle.table_pad.specs.Height.{padded_height}
use Rattle.challenges.specs.Derived.{challenges_answer, challenges_record}
use Rattle.batch.specs.Open.{open_answer}
use Rattle.batch.specs.Lent.{zeros}
use Rattle.batch_reader.specs.declared.Counts.{Counts}
use Rattle.terminals_extended.specs.Extended.{extended_answer}
use Rattle.terminals_walk.proofs.LastRow as extended
use Rattle.terminals_cells.specs.Terminals.{after, padded_answer, padded_cells, filled_answer, filled_cells, table_answer, table_cells, opened_answer, opened_cells, answer_after, cells_after, terminals_answer, terminals_cells}

then_done : (a b : Result (Unit {0}) Refusal) → after a b ≡ Done → b ≡ Done
then_done (Ok u) b e = e
then_done (Err refusal) b e = cc

padded_long : (table : List ℕ) (len : ℕ) (challenges : List ℕ) → padded_answer table len challenges ≡ Done → length (padded_cells table len challenges) ≡ 33
unfolding padded_answer padded_cells
padded_long table len challenges e = extended.cells_long (pad_table table len) challenges (then_done (pad_answer table len) (extended_answer (pad_table table len) challenges) e)

module _ (trace op_stack ram jump_stack challenges : List ℕ) where
  filled_long : (table : List ℕ) → filled_answer trace op_stack ram jump_stack challenges table ≡ Done → length (filled_cells trace op_stack ram jump_stack challenges table) ≡ 33
  unfolding filled_answer filled_cells
  filled_long table e =
      let filled = fill_table trace op_stack ram jump_stack table in
      padded_long filled (rows trace) challenges (then_done (fill_answer trace op_stack ram jump_stack table) (padded_answer filled (rows trace) challenges) e)

  table_long : (k : ℕ) → table_answer k trace op_stack ram jump_stack challenges ≡ Done → length (table_cells k trace op_stack ram jump_stack challenges) ≡ 33
  unfolding table_answer table_cells
  table_long k e = filled_long (zeros (padded_height k (rows trace) * 39)) e

opened_long : (counts : Counts) (trace op_stack ram jump_stack sampled digest input output : List ℕ)
    → opened_answer counts trace op_stack ram jump_stack sampled digest input output ≡ Done → length (opened_cells counts trace op_stack ram jump_stack sampled digest input output) ≡ 33
unfolding opened_answer opened_cells
opened_long counts trace op_stack ram jump_stack sampled digest input output e =
    let read = take counts.input input in
    let wrote = take counts.output output in
    let derived = challenges_record sampled digest read wrote (zeros RECORD-WORDS) in
    let rows-sent = take (counts.rows * 39) trace in
    let o = take counts.op_stack op_stack in
    let r = take counts.ram ram in
    let j = take counts.jump_stack jump_stack in
    table_long rows-sent o r j derived counts.log2_height
    (then_done (challenges_answer sampled digest read wrote (zeros RECORD-WORDS)) (table_answer counts.log2_height rows-sent o r j derived) e)

long_after : (a : Result Counts Refusal) (batch : List ℕ) → answer_after a batch ≡ Done → length (cells_after a batch) ≡ 33
long_after (Err refusal) batch e = cc
long_after (Ok counts) batch e = opened_long counts _ _ _ _ _ _ _ _ e

pub cells_long : (batch : List ℕ) → terminals_answer batch ≡ Done → length (terminals_cells batch) ≡ 33
unfolding terminals_answer terminals_cells
cells_long batch e = long_after (open_answer batch 1248 128 128 128 177 5 64 64) batch e
