-- Polynomials as lists of coefficients, the lowest first, and lists without duplicates.
use Rattle.std.specs.Prelude.{◌≢◌, List, [], ◌∷◌, ℕ}
use Rattle.algebra.specs.Element.{Triple, zero, sum, product}

abbrev pub All : {A : Type 0} → (A → Type 0) → List A → Type 0
All Q [] = Unit {0}
All Q (x ∷ l) = Q x × All Q l

abbrev pub Distinct : {A : Type 0} → List A → Type 0
Distinct [] = Unit {0}
Distinct (x ∷ l) = All (λ y. y ≢ x) l × Distinct l

-- the value of a polynomial at x
unfoldable pub value : List (Triple ℕ) → Triple ℕ → Triple ℕ
unfolding sum product
value [] x = zero
value (a ∷ l) x = sum a (product x (value l x))
