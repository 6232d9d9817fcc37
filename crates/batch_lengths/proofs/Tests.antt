-- What 0B takes at most.
use mathlib.Core.Bool.{Bool, true, false, cond}
use Prim.Native.Nat.{ℕ, ◌≤◌}
use native.Mathlib.Omega.{arith}
use lib.Dec.{eqb}
use Rattle.batch_lengths.specs.Lengths.{height_length}

few_by : (none : Bool) → cond none 0 2 ≤ 2
few_by true = omega arith
few_by false = omega arith

pub height_few : (k : ℕ) → height_length k ≤ 2
height_few k = few_by (eqb k 0)
