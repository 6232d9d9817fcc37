-- A list in ascending order is as long as it was.
use mathlib.Core.Path.{◌≡◌, refl, ap, ◌∙◌}
use mathlib.Core.Bool.{Bool, true, false, cond}
use mathlib.Core.List.{List, [], ◌∷◌}
use Prim.Native.Nat.{ℕ, suc}
use lib.Dec.{leb}
use lib.ListN.{length}
use Rattle.batch_sorted.specs.Sorted.{inserted, sorted}

either : (b : Bool) (us vs : List ℕ) {n : ℕ} → length us ≡ n → length vs ≡ n → length (cond b us vs) ≡ n
either true us vs hu hv = hu
either false us vs hu hv = hv

pub length_inserted : (word : ℕ) (ws : List ℕ) → length (inserted word ws) ≡ suc (length ws)
unfolding inserted
length_inserted word [] = refl
length_inserted word (w ∷ ws) = either (leb word w) (word ∷ w ∷ ws) (w ∷ inserted word ws) refl (ap suc (length_inserted word ws))

pub length-sorted : (ws : List ℕ) → length (sorted ws) ≡ length ws
unfolding sorted
length-sorted [] = refl
length-sorted (w ∷ ws) = length_inserted w (sorted ws) ∙ ap suc (length-sorted ws)
