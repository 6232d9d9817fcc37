-- What was seen is what the commands so far say.
use mathlib.Core.Path.{◌≡◌}
use Prim.Native.Nat.{◌-◌}
use lib.ListN.{length}
use Rattle.batch_reader.proofs.Reached.{Reached}
use Rattle.batch_reader.proofs.read.Given as goal

abbrev pub invariant-loop-command : goal.invariant-loop-command
invariant-loop-command l = (l.opener.batch.now ≡ l.batch) × Reached l.batch l.seen l.opener.at

abbrev pub decreases-loop-command : goal.decreases-loop-command
decreases-loop-command l = length l.batch - l.opener.at
