-- What is proved of p and of the elements. The proofs are in proofs/Theorems.antt.
use Rattle.std.specs.Prelude.{◌≡◌, ◌≢◌, ◌⊎◌, List, ℕ, ◌<◌, length}
use Rattle.algebra.specs.Modulus as base
use Rattle.algebra.specs.Modulus.{p, Prime, plus, minus, times}
use Rattle.algebra.specs.Element.{Triple, Below, zero, one, sum, difference, product, inverse}
use Rattle.algebra.specs.Polynomial.{All, Distinct, value}

abbrev pub ModulusPrime : Type 0
ModulusPrime = Prime p

-- X³ - X + 1 has no root modulo p
abbrev pub NoRoot : Type 0
NoRoot = (x : ℕ) → plus (minus (times x (times x x)) x) 1 ≢ 0

abbrev pub BaseInverse : Type 0
BaseInverse = (a : ℕ) → 0 < a → a < p → (base.inverse a < p) × (times a (base.inverse a) ≡ 1)

abbrev pub ElementInverse : Type 0
ElementInverse = (a : Triple ℕ) → Below a → a ≢ zero → Below (inverse a) × (product a (inverse a) ≡ one)

-- The elements, three words below p, are a field. A law that does not name `Below` holds of any three numbers.
pub record ElementsAreAField : Type 0 where
  pub zero_below : Below zero
  pub one_below : Below one
  pub sum_below : (a b : Triple ℕ) → Below (sum a b)
  pub difference_below : (a b : Triple ℕ) → Below (difference a b)
  pub product-below : (a b : Triple ℕ) → Below (product a b)
  pub sum_assoc : (a b c : Triple ℕ) → sum (sum a b) c ≡ sum a (sum b c)
  pub sum_comm : (a b : Triple ℕ) → sum a b ≡ sum b a
  pub sum_zero : (a : Triple ℕ) → Below a → sum a zero ≡ a
  pub sum-negative : (a : Triple ℕ) → sum a (difference zero a) ≡ zero
  pub difference_sum : (a b : Triple ℕ) → difference a b ≡ sum a (difference zero b)
  pub product_assoc : (a b c : Triple ℕ) → product (product a b) c ≡ product a (product b c)
  pub product_comm : (a b : Triple ℕ) → product a b ≡ product b a
  pub product_one : (a : Triple ℕ) → Below a → product a one ≡ a
  pub distrib : (a b c : Triple ℕ) → product a (sum b c) ≡ sum (product a b) (product a c)
  pub one≢zero : one ≢ zero
  pub product-inverse : ElementInverse

abbrev pub NoZeroDivisors : Type 0
NoZeroDivisors = (a b : Triple ℕ) → Below a → Below b → product a b ≡ zero → (a ≡ zero) ⊎ (b ≡ zero)

-- a non-zero polynomial with n coefficients has fewer than n roots in any list without duplicates
abbrev pub RootBound : Type 0
RootBound =
    (l xs : List (Triple ℕ)) → All Below l → All Below xs → ¬ All (λ a. a ≡ zero) l → Distinct xs
    → All (λ x. value l x ≡ zero) xs → length xs < length l
