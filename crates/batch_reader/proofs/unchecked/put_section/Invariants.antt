-- The commands of the kind so far have brought what the slice begins with; the first of another kind ends the section.
use Prim.Native.Nat.{◌-◌}
use lib.ListN.{length}
use Rattle.batch_commands.specs.Code.{byte_of}
use Rattle.batch_reader.proofs.Sections.{Section}
use Rattle.batch_reader.proofs.unchecked.put_section.Given as goal

abbrev pub invariant-loop-place : goal.invariant-loop-place
invariant-loop-place l = Section l.batch (byte_of l.fn.wanted) l.form l.initial.slice l.slice l.to l.place

abbrev pub decreases-loop-place : goal.decreases-loop-place
decreases-loop-place l = length l.batch - l.place
