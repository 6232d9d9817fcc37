-- What is counted so far leaves the other differences to count.
use Rattle.std.proofs.Common.{◌≡◌, drop}
use Rattle.table_fill.specs.Counted.{counted}
use Rattle.table_fill.proofs.count_differences.Given as goal

abbrev pub invariant-loop-d : goal.invariant-loop-d
invariant-loop-d l = counted l.differences l.initial.table ≡ counted (drop l.d-index l.differences) l.table
