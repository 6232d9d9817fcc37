-- Some commands are put, and the words of the others are to come.
use Rattle.batch_commands.specs.Code.{byte_of}
use Rattle.batch_writer.proofs.Putting.{Putting}
use Rattle.batch_writer.proofs.unchecked.put_commands.Given as goal

abbrev pub invariant-loop-part : goal.invariant-loop-part
invariant-loop-part l = Putting l.initial.batch l.at (byte_of l.code) l.each l.form l.words l.batch l.to l.part-iterator.size l.part-iterator.rest.now
