-- A part of zeros is zeros.
use mathlib.Core.Path.{◌≡◌}
use Prim.Native.Nat.{ℕ, ◌≤◌}
use lib.ListN.{length, take, replicate, length-replicate}
use Rattle.std.proofs.lemmas.List.{take-replicate}
use Rattle.batch.specs.Lent.{zeros}

pub take-zeros : (n m : ℕ) → n ≤ m → take n (replicate m 0) ≡ zeros n
unfolding zeros
take-zeros n m h = take-replicate n m 0 h

pub length-zeros : (n : ℕ) → length (zeros n) ≡ n
unfolding zeros
length-zeros n = length-replicate n 0
