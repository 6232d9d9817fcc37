-- At most one difference a vector.
use Rattle.std.proofs.Common.{◌≤◌}
use Rattle.list_vectors.proofs.main.Given as goal

abbrev pub invariant-loop : goal.invariant-loop
invariant-loop l = (l.vectors ≤ l.counter) × (l.differences ≤ l.counter)
