-- Powers in a commutative ring, and why squaring and multiplying computes them.
use mathlib.Core.Path.{◌≡◌, refl, ap, ap₂, sym, ◌∙◌}
use mathlib.Core.List.{[], ◌∷◌}
use Prim.Native.Nat.{ℕ, zero, suc, ◌+◌, ◌/◌, ◌%◌, ◌^◌, ◌<◌}
use native.Mathlib.Nat as number
use native.Mathlib.Omega.{arith}
use Rattle.algebra.specs.Ring.{CommRing}
use Rattle.algebra.proofs.RingLaws.{one-mul}
use Rattle.algebra.proofs.Solver.{◌⊗◌, solve, v0, v1, v2, v3}

-- a to the n-th for n below 2 ^ k, over any product
unfoldable pub squaring : {A : Type 0} → (A → A → A) → A → ℕ → A → ℕ → A
squaring m e zero a n = e
squaring m e (suc k) a n = m (squaring m e k (m a a) (n / 2)) (elim (n % 2) [ zero ↦ e | suc r ↦ a ])

halves : (n : ℕ) → n / 2 + n / 2 + n % 2 ≡ n
halves n = omega arith

module _ (R : CommRing) where
  open R use {Carrier as C, one as i, mul, mul_assoc, mul-one}

  unfoldable pub pow : C → ℕ → C
  pow x zero = i
  pow x (suc n) = mul x (pow x n)

  pub one_pow : (n : ℕ) → pow i n ≡ i
  unfolding pow
  one_pow zero = refl
  one_pow (suc n) = one-mul R (pow i n) ∙ one_pow n

  pub pow-add : (x : C) (m n : ℕ) → pow x (m + n) ≡ mul (pow x m) (pow x n)
  unfolding pow
  pow-add x zero n = ap (pow x) (number.zero-add n) ∙ sym (one-mul R (pow x n))
  pow-add x (suc m) n = ap (pow x) (number.suc-add m n) ∙ ap (mul x) (pow-add x m n) ∙ sym (mul_assoc x (pow x m) (pow x n))

  pub mul-pow : (x y : C) (n : ℕ) → pow (mul x y) n ≡ mul (pow x n) (pow y n)
  unfolding pow
  mul-pow x y zero = sym (mul-one i)
  mul-pow x y (suc n) =
      ap (mul (mul x y)) (mul-pow x y n)
      ∙ solve R (x ∷ y ∷ pow x n ∷ pow y n ∷ []) ((v0 ⊗ v1) ⊗ (v2 ⊗ v3)) ((v0 ⊗ v2) ⊗ (v1 ⊗ v3)) tt

  pub square_pow : (x : C) (n : ℕ) → pow (mul x x) n ≡ pow x (n + n)
  square_pow x n = mul-pow x x n ∙ sym (pow-add x n n)

  -- along a map that keeps products
  module _ {A : Type 0} (m : A → A → A) (e : A) (f : A → C) (one : f e ≡ i) (product : (a b : A) → f (m a b) ≡ mul (f a) (f b)) where
    digit : (r : ℕ) (a : A) → r < 2 → f (elim r [ zero ↦ e | suc s ↦ a ]) ≡ pow (f a) r
    unfolding pow
    digit zero a h = one
    digit (suc zero) a h = sym (mul-one (f a))
    digit (suc (suc r)) a h = absurd (omega arith)

    pub squaring_pow : (k : ℕ) (a : A) (n : ℕ) → n < 2 ^ k → f (squaring m e k a n) ≡ pow (f a) n
    unfolding squaring pow
    squaring_pow zero a n h = one ∙ ap (pow (f a)) {x = 0} {y = n} (omega arith)
    squaring_pow (suc k) a n h =
        product (squaring m e k (m a a) (n / 2)) (elim (n % 2) [ zero ↦ e | suc r ↦ a ])
        ∙ ap₂ mul
        (squaring_pow k (m a a) (n / 2) (omega (arith, number.two-pow-succ k)) ∙ ap (λ x. pow x (n / 2)) (product a a) ∙ square_pow (f a) (n / 2))
        (digit (n % 2) a (omega arith))
        ∙ sym (pow-add (f a) (n / 2 + n / 2) (n % 2)) ∙ ap (pow (f a)) (halves n)
