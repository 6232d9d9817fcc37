-- The pigeonhole principle: n numbers below m that differ pairwise are at most m.
use mathlib.Core.Path.{◌≡◌}
use mathlib.Core.Logic.{◌≢◌, ◌⊎◌, inl, inr}
use Prim.Native.Nat.{ℕ, zero, suc, ◌+◌, ◌-◌, ◌≤◌, ◌<◌, min, zero-le, suc-le-suc}
use native.Mathlib.Omega.{arith}
use native.Mathlib.Decide.{dec_le}

-- takes the numbers other than v to the numbers, one to one
squash : ℕ → ℕ → ℕ
squash v x = (x - v - 1) + min x v

squash_lt : (v x m : ℕ) → x ≢ v → x < suc m → v < suc m → squash v x < m
unfolding squash
squash_lt v x m ne a b = omega arith

squash_cases : (v x : ℕ) → x ≢ v → ((x < v) × (squash v x ≡ x)) ⊎ ((v < x) × (suc (squash v x) ≡ x))
unfolding squash
squash_cases v x ne = go (dec_le v x)
  where
    go : Dec (v ≤ x) → ((x < v) × ((x - v - 1) + min x v ≡ x)) ⊎ ((v < x) × (suc ((x - v - 1) + min x v) ≡ x))
    go (yes h) = inr (omega arith)
    go (no h) = inl (omega arith)

squash_injective : (v x y : ℕ) → x ≢ v → y ≢ v → squash v x ≡ squash v y → x ≡ y
squash_injective v x y a b e = go (squash_cases v x a) (squash_cases v y b)
  where
    go : ((x < v) × (squash v x ≡ x)) ⊎ ((v < x) × (suc (squash v x) ≡ x))
        → ((y < v) × (squash v y ≡ y)) ⊎ ((v < y) × (suc (squash v y) ≡ y)) → x ≡ y
    go (inl p) (inl q) = omega arith
    go (inl p) (inr q) = omega arith
    go (inr p) (inl q) = omega arith
    go (inr p) (inr q) = omega arith

pub pigeonhole : (n m : ℕ) (f : ℕ → ℕ) → ((i : ℕ) → i < n → f i < m) → ((i j : ℕ) → i < j → j < n → f i ≢ f j) → n ≤ m
pigeonhole zero m f lt ne = zero-le
pigeonhole (suc n) zero f lt ne = absurd (omega (arith, lt n (omega arith)))
pigeonhole (suc n) (suc m) f lt ne =
    suc-le-suc (pigeonhole n m (λ i. squash (f n) (f i))
    (λ i h. squash_lt (f n) (f i) m (ne i n h (omega arith)) (lt i (omega arith)) (lt n (omega arith)))
    (λ i j h k e. ne i j h (omega arith) (squash_injective (f n) (f i) (f j) (ne i n (omega arith) (omega arith)) (ne j n k (omega arith)) e)))
