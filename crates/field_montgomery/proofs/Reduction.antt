-- Montgomery's reduction: q·p ends on the low word of hi·2^64 + lo, so that hi less q·p's high word is the number divided by 2^64.
use Rattle.std.proofs.Common.{◌≡◌, ℕ, ◌+◌, ◌-◌, ◌*◌, ◌/◌, ◌%◌, ◌<◌, ◌≤◌, sym, ap, ◌∙◌, mod-lt, mod-eq_of_lt, mul_comm, add-mul, arith}
use Rattle.algebra.specs.Modulus.{p, minus}
use Rattle.algebra.proofs.Base.{p_positive}
use Rattle.algebra.proofs.Residues.{mod-mul_mod}
use Rattle.field_base.proofs.Modular.{mod-cong}
use Rattle.field_montgomery.specs.Form.{RADIX, to_montgomery, from_montgomery}
use Rattle.field_montgomery.proofs.Conversion.{from_mod}
use Rattle.field_montgomery.proofs.Theorems.{conversions}

-- a word that no carry was added to
pub alone : {k w : ℕ} → k ≡ 0 → w ≡ k * RADIX + w
alone e = omega arith

-- e is the carry out of the sum q
pub record Carried (lo q e : ℕ) : Type 0 where
  pub sum : q + e * RADIX ≡ lo + lo % 4294967296 * 4294967296
  pub word : q < RADIX

pub carry : (lo q e : ℕ) → lo < RADIX → q ≡ (lo + lo % 4294967296 * 4294967296) % RADIX → q < lo % 4294967296 * 4294967296 → e ≡ 1 → Carried lo q e
carry lo q e h s l o = record { sum = omega arith; word = omega arith }

pub no_carry : (lo q e : ℕ) → lo < RADIX → q ≡ (lo + lo % 4294967296 * 4294967296) % RADIX → lo % 4294967296 * 4294967296 ≤ q → e ≡ 0 → Carried lo q e
no_carry lo q e h s l o = record { sum = omega arith; word = omega arith }

-- q ends on the half word that lo ends on
half : (lo q e : ℕ) → Carried lo q e → q % 4294967296 ≡ lo % 4294967296
half lo q e s = omega arith

-- the upper half words, and the carry
upper : (lo q e : ℕ) → Carried lo q e → q / 4294967296 + e * 4294967296 ≡ lo / 4294967296 + lo % 4294967296
upper lo q e s = let same = half lo q e s in omega arith

at_most : (l u q e : ℕ) → u < 4294967296 → q % 4294967296 ≡ l → q / 4294967296 + e * 4294967296 ≡ u + l → e ≤ q - q / 4294967296
at_most l u q e h same f = omega arith

borrows : (lo q e : ℕ) → lo < RADIX → Carried lo q e → e ≤ q - q / 4294967296
borrows lo q e h s = at_most (lo % 4294967296) (lo / 4294967296) q e (omega arith) (half lo q e s) (upper lo q e s)

ends : (lo q e b u l : ℕ) → b + u + e ≡ q → u * 4294967296 + l ≡ q → q + e * RADIX ≡ lo + l * 4294967296 → q * p ≡ b * RADIX + lo
ends lo q e b u l f g s = omega arith

pub ends_on : (lo q e : ℕ) → lo < RADIX → Carried lo q e → q * p ≡ (q - q / 4294967296 - e) * RADIX + lo
ends_on lo q e h s =
    let fits = borrows lo q e h s in
    ends lo q e _ (q / 4294967296) (lo % 4294967296) (omega arith) (omega (arith, half lo q e s)) s.sum

cleared : (m r hi k b q lo : ℕ) → k + b ≡ m → q * m ≡ b * r + lo → (hi + k) * r + q * m ≡ hi * r + lo + r * m
cleared m r hi k b q lo e f = omega (arith, add-mul hi k r, add-mul k b r, ap (λ (n : ℕ). n * r) e, mul_comm r m)

pub divided : (hi lo b q : ℕ) → b < p → q * p ≡ b * RADIX + lo → minus hi b ≡ from_montgomery (hi * RADIX + lo)
unfolding to_montgomery
divided hi lo b q h e =
    sym (conversions.from_to (minus hi b) (mod-lt _ p_positive))
    ∙ ap from_montgomery
    (mod-mul_mod (hi + (p - b % p)) RADIX p ∙ rw (mod-eq_of_lt h) (mod-cong p _ _ q RADIX (cleared p RADIX hi (p - b) b q lo (omega arith) e)))
    ∙ from_mod (hi * RADIX + lo)
