-- What the test of some words tells.
use mathlib.Core.Path.{◌≡◌, refl}
use mathlib.Core.Bool.{Bool, true, false, cond, not}
use mathlib.Core.List.{List, [], ◌∷◌}
use Prim.Native.Nat.{ℕ}
use Rattle.std.specs.Prelude.{Result, Err}
use Rattle.refusal.specs.declared.Refusal.{Refusal}
use Rattle.refusal.specs.declared.Refusal.TheVariants.{WordNotBelowP}
use Rattle.refusal.specs.Tests.{Done, first}
use Rattle.field_base.specs.Words.{all_below}
use Rattle.extend_answer.specs.Answer.{words_test}

module _ (words : List ℕ) where
  abbrev answer : Bool → Result (Unit {0}) Refusal
  answer below = cond (not below) (Err WordNotBelowP) Done

  pub words_passed : Done ≡ first (words_test (words ∷ []) ∷ []) → all_below words ≡ true
  words_passed e = go (all_below words) e
    where
      go : (b : Bool) → Done ≡ answer b → b ≡ true
      go true e = refl
      go false e = cc

  pub words_refused : {r : Refusal} → Err r ≡ first (words_test (words ∷ []) ∷ []) → (all_below words ≡ false) × (r ≡ WordNotBelowP)
  words_refused {r} e = go (all_below words) e
    where
      go : (b : Bool) → Err r ≡ answer b → (b ≡ false) × (r ≡ WordNotBelowP)
      go true e = cc
      go false e = (refl, cc)
