-- Tests that compute, and values chosen by a decision.
use mathlib.Core.Path.{◌≡◌, refl}
use mathlib.Core.Bool.{Bool, true, false, cond, ◌&&◌, false≢true}
use mathlib.Core.List.{List, [], ◌∷◌}
use lib.Dec.{T}
use mir.Facts.{and_yes}
use Rattle.algebra.specs.Polynomial.{All}

abbrev pub every : {A : Type 0} → (A → Bool) → List A → Bool
every test [] = true
every test (a ∷ l) = test a && every test l

pub every_all : {A : Type 0} (test : A → Bool) (Q : A → Type 0) → ((a : A) → T (test a) → Q a) → (l : List A) → T (every test l) → All Q l
every_all test Q h [] t = tt
every_all test Q h (a ∷ l) t = let u = and_yes (test a) (every test l) t in (h a u.0, every_all test Q h l u.1)

abbrev pub choose : {Q A : Type 0} → Dec Q → A → A → A
choose (yes q) a b = a
choose (no n) a b = b

-- a test that agrees with the decision
pub choose_cond : {Q A : Type 0} (d : Dec Q) (t : Bool) (a b : A) → (Q → t ≡ true) → (t ≡ true → Q) → choose d a b ≡ cond t a b
choose_cond (yes q) true a b h k = refl
choose_cond (yes q) false a b h k = absurd (false≢true (h q))
choose_cond (no n) true a b h k = absurd (n (k refl))
choose_cond (no n) false a b h k = refl
