-- The words from i on are in the sum.
use Rattle.std.proofs.Common.{◌≡◌, ◌-◌, ◌≤◌, ◌%◌, drop}
use Rattle.algebra.specs.Modulus.{p}
use Rattle.field_base.specs.Totals.{sum_of}
use Rattle.column_entries.specs.Row.{weigh}
use Rattle.column_compression.proofs.compress3_c0.Given as goal

abbrev pub invariant-loop-i : goal.invariant-loop-i
invariant-loop-i l = record {
  few : l.sum.upper.carries ≤ 3 - l.i;
  is : sum_of l.sum % p ≡ (weigh (drop l.i l.weights) (drop l.i l.words)).c0;
}
