-- A k in one byte.
use mathlib.Core.Path.{◌≡◌}
use mathlib.Core.List.{List, [], ◌∷◌}
use Prim.Native.Nat.{ℕ, ◌≤◌}
use native.Mathlib.Omega.{arith}
use lib.ListN.{length, take, get_or}
use Rattle.batch_words.specs.Words.{number}

pub one_byte : (l : List ℕ) → 1 ≤ length l → number (take 1 l) ≡ get_or l 0 0
unfolding number
one_byte [] h = absurd (omega arith)
one_byte (b ∷ bs) h = omega arith
