-- The words below the clock copied one by one, from where nothing is written.
use Rattle.std.proofs.Common.{◌≡◌, drop}
use lib.Seq.{paste}
use Rattle.table_pad.proofs.repeat_row.Given as goal

abbrev pub invariant-loop-i : goal.invariant-loop-i
invariant-loop-i l = l.table ≡ paste l.initial.table l.to (drop l.from l.initial.table) l.i
