-- A power of two is tried only after the one below did not hold the rows.
use Rattle.std.proofs.Common.{◌≡◌, ℕ, zero, suc, ◌+◌, ◌*◌, ◌/◌, ◌^◌, ◌≤◌, ◌<◌, min, max, Bool, true, false, cond, leb, refl, sym, ◌∙◌, lit<, lit≤, arith, add-zero}
use native.Mathlib.Nat.{pow-suc, pow-le-pow_right, lt_irrefl, lt_of_lt_of_le, le_trans}
use borrow.Author.Tests.{leb-true, leb-false, le-leb, lt-leb}
use Rattle.std.specs.Int.{IsPowerOfTwo}
use Rattle.table_pad.specs.Height.{doubled, height, Smallest, HeightIsSmallest}

module _ (rows : ℕ) where
  higher_by : (j k : ℕ) (lower : Bool) → leb (suc k) j ≡ lower → 2 ^ j < rows → rows ≤ 2 ^ suc k → 2 ^ suc j ≤ 2 ^ suc k
  higher_by j k true e below holds = absurd (lt_irrefl (2 ^ j) (lt_of_lt_of_le below (le_trans holds (pow-le-pow_right (lit< tt) (leb-true (suc k) j e)))))
  higher_by j k false e below holds = pow-le-pow_right (lit< tt) (leb-false (suc k) j e)

  -- what holds the rows is higher than what does not
  higher : (j k : ℕ) → 2 ^ j < rows → rows ≤ 2 ^ suc k → 2 ^ suc j ≤ 2 ^ suc k
  higher j k = higher_by j k (leb (suc k) j) refl

  -- the one that is tried, or what the next ones lead to
  first_of : (j k : ℕ) (b : Bool) → leb rows (2 ^ suc j) ≡ b → ((i : ℕ) → rows ≤ 2 ^ suc i → 2 ^ suc j ≤ 2 ^ suc i)
      → (2 ^ suc j < rows → Smallest rows (doubled rows k (2 ^ suc j * 2))) → Smallest rows (cond b (2 ^ suc j) (doubled rows k (2 ^ suc j * 2)))
  first_of j k true e below next = record { exponent = j; power = refl; holds = leb-true rows (2 ^ suc j) e; smallest = below }
  first_of j k false e below next = next (leb-false rows (2 ^ suc j) e)

  -- 2 to the j + 1, or one of the next k
  smallest_from : (k j : ℕ) → rows ≤ 2 ^ suc (j + k) → ((i : ℕ) → rows ≤ 2 ^ suc i → 2 ^ suc j ≤ 2 ^ suc i) → Smallest rows (doubled rows k (2 ^ suc j))
  unfolding doubled
  smallest_from zero j top below = record { exponent = j; power = refl; holds = rw add-zero at top; smallest = below }
  smallest_from (suc k) j top below =
      let same : j + suc k ≡ suc j + k = omega arith in
      first_of j k (leb rows (2 ^ suc j)) refl below (λ h. rw (sym (pow-suc 2 (suc j))) (smallest_from k (suc j) (rw same at top) (λ i l. higher (suc j) i h l)))

pub height_is_smallest : HeightIsSmallest
unfolding height
height_is_smallest rows h = smallest_from rows 4 0 h (λ i l. let one : 1 ≤ suc i = omega arith in pow-le-pow_right {n = 2} (lit< tt) {i = 1} {j = suc i} one)

-- the power of two that holds a number of rows from 2 to 32
height_of : (rows k : ℕ) → max 2 (min rows 32) ≤ 2 ^ k → 2 ^ k / 2 < max 1 (max 2 (min rows 32)) → (2 ^ k ≡ height rows) × (2 ^ k ≤ 32)
unfolding height doubled
height_of rows zero h l = absurd (omega arith)
height_of rows (suc zero) h l = (rw (le-leb rows 2 (omega arith)), lit≤ tt)
height_of rows (suc (suc zero)) h l = (rw (lt-leb rows 2 (omega arith), le-leb rows 4 (omega arith)), lit≤ tt)
height_of rows (suc (suc (suc zero))) h l = (rw (lt-leb rows 2 (omega arith), lt-leb rows 4 (omega arith), le-leb rows 8 (omega arith)), lit≤ tt)
height_of rows (suc (suc (suc (suc zero)))) h l =
    (rw (lt-leb rows 2 (omega arith), lt-leb rows 4 (omega arith), lt-leb rows 8 (omega arith), le-leb rows 16 (omega arith)), lit≤ tt)
height_of rows (suc (suc (suc (suc (suc zero))))) h l =
    (rw (lt-leb rows 2 (omega arith), lt-leb rows 4 (omega arith), lt-leb rows 8 (omega arith), lt-leb rows 16 (omega arith)), lit≤ tt)
height_of rows (suc (suc (suc (suc (suc (suc k)))))) h l =
    let high : 64 ≤ 2 ^ suc (suc (suc (suc (suc (suc k))))) = pow-le-pow_right {n = 2} (lit< tt) {i = 6} (omega arith) in
    absurd (omega arith)

pub height_is : (rows n : ℕ) → IsPowerOfTwo n → max 2 (min rows 32) ≤ n → n / 2 < max 1 (max 2 (min rows 32)) → (n ≡ height rows) × (2 ≤ n) × (n ≤ 32)
height_is rows n (k, e) h l = let at = height_of rows k (rw e at h) (rw e at l) in (e ∙ at.0, omega arith, omega (arith, e))
