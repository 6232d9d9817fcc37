-- At most one difference for each argument.
use Rattle.std.proofs.Common.{◌≤◌}
use Rattle.list_instructions.proofs.differences_of.Given as goal

abbrev pub invariant-loop-argument : goal.invariant-loop-argument
invariant-loop-argument g l = l.count ≤ l.argument-index
