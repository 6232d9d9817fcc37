-- Some commands are put, and the words of the others are to come.
use mathlib.Core.Path.{ap}
use Prim.Native.Nat.{◌/◌}
use Rattle.batch_commands.specs.Code.{byte_of}
use Rattle.batch_writer.proofs.Putting.{none_put, fits, one_put, all_put}
use Rattle.batch_writer.proofs.unchecked.put_commands.Goals as goal

pub loop-part-init : goal.loop-part-init
loop-part-init c =
    let args = c.args in
    let asked = c.requires in
    let items = c.chunks_exact-part-items.ensures in
    rw (c.into_iter-part-iterator.ensures.into_iter_gives, items.rest, items.size) (none_put args.batch.now args.at (byte_of args.code) (c.width-each.result / 8) args.form args.words.now asked.code_bound.1 asked.code_bound.0 (ap (λ w. w / 8) c.width-each.ensures) asked.code_in_bounds)

pub put_command-requires : goal.put_command-requires
put_command-requires c =
    let args = c.args in
    let loop = c.loop-part in
    let steps = c.in-Some.ensures.steps in
    let left = c.loop-part.part-iterator in
    fits args.batch.now args.at (byte_of args.code) (c.width-each.result / 8) args.form args.words.now loop.batch loop.to left.size left.rest.now loop.invariant c.in-Some.part.now c.next.new.self.rest.now steps.1.0 steps.1.1

pub loop-part-preserved : goal.loop-part-preserved
loop-part-preserved c =
    let args = c.args in
    let loop = c.loop-part in
    let steps = c.in-Some.ensures.steps in
    let left = c.loop-part.part-iterator in
    one_put args.batch.now args.at (byte_of args.code) (c.width-each.result / 8) args.form args.words.now loop.batch loop.to left.size left.rest.now loop.invariant c.in-Some.part.now c.next.new.self.rest.now steps.1.0 steps.1.1 c.put_command.new.batch c.next.new.self.size steps.0 c.put_command.auto.batch c.put_command.ensures

pub returns : goal.returns
returns c =
    let args = c.args in
    let loop = c.loop-part in
    let left = c.loop-part.part-iterator in
    let all = all_put args.batch.now args.at (byte_of args.code) (c.width-each.result / 8) args.form args.words.now loop.batch loop.to left.size left.rest.now loop.invariant c.in-None.ensures.steps.1.0 in
    record { value = all.0; batch_after = all.1 }
