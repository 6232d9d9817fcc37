-- 07 stands where k says, and what the batch brings fits.
use mathlib.Core.Path.{sym, ◌∙◌}
use lib.ListN.{length}
use Rattle.batch_reader.specs.Answers.{brought}
use Rattle.batch.proofs.Room.{digest_there, Room, room}
use Rattle.batch.proofs.open.Goals as goal
use Rattle.batch.proofs.open.Goals.{In_ok-counts}

fits : (c : In_ok-counts) → let args = c.args in Room args.batch.now (length args.trace.now) (length args.op_stack.now) (length args.ram.now) (length args.jump_stack.now) (length args.sampled.now) (length args.digest.now) (length args.input.now) (length args.output.now)
fits c = room c.args.batch.now c.in_ok-counts.counts _ _ _ _ _ _ _ _ (sym c.read.ensures ∙ c.in_ok-counts.was) (sym c.right_lengths.ensures ∙ c.if-not-right_lengths.false)

pub put_section-at-requires-clause-at_value : goal.put_section-at-requires-clause-at_value
put_section-at-requires-clause-at_value c = digest_there c.args.batch.now c.in_ok-counts.counts _ (sym c.read.ensures ∙ c.in_ok-counts.was) c.digest_at-at.ensures

pub put_section-at-requires-clause-batch_in_bounds : goal.put_section-at-requires-clause-batch_in_bounds
unfolding brought
put_section-at-requires-clause-batch_in_bounds c = (fits (goal.at.put_section-at-requires-clause-batch_in_bounds c).In_ok-counts).for_digest

pub put_section-at-requires-2-clause-batch_in_bounds : goal.put_section-at-requires-2-clause-batch_in_bounds
unfolding brought
put_section-at-requires-2-clause-batch_in_bounds c = (fits (goal.at.put_section-at-requires-2-clause-batch_in_bounds c).In_ok-counts).for_input

pub put_section-at-requires-3-clause-batch_in_bounds : goal.put_section-at-requires-3-clause-batch_in_bounds
unfolding brought
put_section-at-requires-3-clause-batch_in_bounds c = (fits (goal.at.put_section-at-requires-3-clause-batch_in_bounds c).In_ok-counts).for_output

pub put_section-at-requires-4-clause-batch_in_bounds : goal.put_section-at-requires-4-clause-batch_in_bounds
unfolding brought
put_section-at-requires-4-clause-batch_in_bounds c = (fits (goal.at.put_section-at-requires-4-clause-batch_in_bounds c).In_ok-counts).for_sampled

pub put_rows-at-requires-clause-batch_in_bounds : goal.put_rows-at-requires-clause-batch_in_bounds
put_rows-at-requires-clause-batch_in_bounds c = (fits (goal.at.put_rows-at-requires-clause-batch_in_bounds c).In_ok-counts).for_trace

pub put_section-at-requires-5-clause-batch_in_bounds : goal.put_section-at-requires-5-clause-batch_in_bounds
unfolding brought
put_section-at-requires-5-clause-batch_in_bounds c = (fits (goal.at.put_section-at-requires-5-clause-batch_in_bounds c).In_ok-counts).for_op_stack

pub put_section-at-requires-6-clause-batch_in_bounds : goal.put_section-at-requires-6-clause-batch_in_bounds
unfolding brought
put_section-at-requires-6-clause-batch_in_bounds c = (fits (goal.at.put_section-at-requires-6-clause-batch_in_bounds c).In_ok-counts).for_ram

pub put_section-requires-clause-batch_in_bounds : goal.put_section-requires-clause-batch_in_bounds
unfolding brought
put_section-requires-clause-batch_in_bounds c = (fits (goal.at.put_section-requires-clause-batch_in_bounds c).In_ok-counts).for_jump_stack
