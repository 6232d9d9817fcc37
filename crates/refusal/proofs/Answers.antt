-- Tests as the code makes them.
use mathlib.Core.Path.{◌≡◌, refl, sym}
use mathlib.Core.Bool.{Bool, true, false, not, ◌||◌}
use Prim.Native.Nat.{ℕ}
use lib.Dec.{leb, ltb}
use borrow.Author.Tests.{leb-true, leb-false, lt-ltb, le-ltb}
use Rattle.refusal.specs.Long.{is_long}

long_by : (n : ℕ) (fits : Bool) → leb n 4194304 ≡ fits → not fits ≡ ltb 4194304 n
long_by n true e = sym (le-ltb 4194304 n (leb-true n 4194304 e))
long_by n false e = sym (lt-ltb 4194304 n (leb-false n 4194304 e))

-- the code's test for a long table or list
pub is_long_lem : (n : ℕ) → is_long n ≡ ltb 4194304 n
is_long_lem n = long_by n (leb n 4194304) refl

pub or-false : (a b : Bool) → (a || b) ≡ false → (a ≡ false) × (b ≡ false)
or-false true b e = (e, cc)
or-false false b e = (refl, e)
