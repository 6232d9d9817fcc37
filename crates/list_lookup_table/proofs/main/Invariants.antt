-- At most one difference an entry.
use Rattle.std.proofs.Common.{◌≤◌}
use Rattle.list_lookup_table.proofs.main.Given as goal

abbrev pub invariant-loop-i : goal.invariant-loop-i
invariant-loop-i l = l.differences ≤ l.i-counter
