-- Elements whose first words differ are different: one test for a whole record of challenges.
use mathlib.Core.Path.{ap}
use mathlib.Core.Logic.{◌≢◌}
use mathlib.Core.Bool.{Bool, true, false, not, ◌&&◌}
use mathlib.Core.List.{List, [], ◌∷◌, map}
use Prim.Native.Nat.{ℕ}
use lib.Dec.{T, eqb, eqb_refl, T_not}
use mir.Facts.{and_yes}
use Rattle.algebra.specs.Polynomial.{All, Distinct}
use Rattle.field.specs.declared.XFieldElement.{XFieldElement}
use Rattle.air.specs.Count.{up_to}
use Rattle.air.specs.ChallengeId.{COUNT}
use Rattle.challenges.specs.Derived.{challenge_at}
use Rattle.column_entries.specs.Columns.{Column, input, output, instruction, op_stack, ram, jump_stack, hash_input, hash_digest, sponge, u32, clock}
use Rattle.terms_cases.specs.Tables.{ten}

-- no element of the list begins with w
abbrev without : ℕ → List XFieldElement → Bool
without w [] = true
without w (e ∷ es) = not (eqb e.c0 w) && without w es

abbrev apart : List XFieldElement → Bool
apart [] = true
apart (e ∷ es) = without e.c0 es && apart es

differs : (x y : XFieldElement) → T (not (eqb y.c0 x.c0)) → y ≢ x
differs x y t e = T_not (eqb y.c0 x.c0) t (rw (ap (λ z. z.c0) e) (eqb_refl x.c0))

all_other : (x : XFieldElement) (es : List XFieldElement) → T (without x.c0 es) → All (λ y. y ≢ x) es
all_other x [] t = tt
all_other x (y ∷ es) t = let u = and_yes (not (eqb y.c0 x.c0)) (without x.c0 es) t in (differs x y u.0, all_other x es u.1)

distinct : (es : List XFieldElement) → T (apart es) → Distinct es
distinct [] t = tt
distinct (e ∷ es) t = let u = and_yes (without e.c0 es) (apart es) t in (all_other e es u.0, distinct es u.1)

pub different : (c : Column) → Distinct (map (challenge_at (ten c)) (up_to COUNT))
different input = distinct (map (challenge_at (ten input)) (up_to COUNT)) tt
different output = distinct (map (challenge_at (ten output)) (up_to COUNT)) tt
different instruction = distinct (map (challenge_at (ten instruction)) (up_to COUNT)) tt
different op_stack = distinct (map (challenge_at (ten op_stack)) (up_to COUNT)) tt
different ram = distinct (map (challenge_at (ten ram)) (up_to COUNT)) tt
different jump_stack = distinct (map (challenge_at (ten jump_stack)) (up_to COUNT)) tt
different hash_input = distinct (map (challenge_at (ten hash_input)) (up_to COUNT)) tt
different hash_digest = distinct (map (challenge_at (ten hash_digest)) (up_to COUNT)) tt
different sponge = distinct (map (challenge_at (ten sponge)) (up_to COUNT)) tt
different u32 = distinct (map (challenge_at (ten u32)) (up_to COUNT)) tt
different clock = distinct (map (challenge_at (ten clock)) (up_to COUNT)) tt
