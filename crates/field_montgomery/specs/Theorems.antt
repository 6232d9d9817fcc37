-- The form against plain words: the conversions undo each other, and each operation is the plain one seen through them.
use Rattle.std.specs.Prelude.{◌≡◌, ℕ, ◌<◌, ◌↔◌, Result, Ok, Err}
use Rattle.algebra.specs.Modulus.{p}
use Rattle.refusal.specs.declared.Refusal.TheVariants.{ZeroDenominator}
use Rattle.field_base.specs.Answers.{base_add, base_mul, base_inverse}
use Rattle.field_montgomery.specs.Form.{to_montgomery, from_montgomery}
use Rattle.field_montgomery.specs.Answers.{montgomery_add, montgomery_mul, montgomery_inverted}
use Rattle.refusal.specs.declared.Refusal.{Refusal}

-- "the conversions inverse to each other"
pub record Conversions : Type 0 where
  pub to_below : (v : ℕ) → to_montgomery v < p
  pub from_below : (w : ℕ) → from_montgomery w < p
  pub from_to : (v : ℕ) → v < p → from_montgomery (to_montgomery v) ≡ v
  pub to_from : (w : ℕ) → w < p → to_montgomery (from_montgomery w) ≡ w
  pub one : to_montgomery 1 ≡ 4294967295

-- an answer seen through a conversion: its word converted, a refusal as it is
abbrev pub through : (ℕ → ℕ) → Result ℕ Refusal → Result ℕ Refusal
through f (Ok w) = Ok (f w)
through f (Err r) = Err r

-- "sums, products and inverses in that form, each shown to be the plain operation seen through the conversion"
pub record PlainSeenThrough : Type 0 where
  pub add : (a b : ℕ) → a < p → b < p → montgomery_add (to_montgomery a) (to_montgomery b) ≡ through to_montgomery (base_add a b)
  pub mul : (a b : ℕ) → a < p → b < p → montgomery_mul (to_montgomery a) (to_montgomery b) ≡ through to_montgomery (base_mul a b)
  pub inverse : (a : ℕ) → a < p → montgomery_inverted (to_montgomery a) ≡ through to_montgomery (base_inverse a)
  pub from_add : (a b : ℕ) → a < p → b < p → through from_montgomery (montgomery_add a b) ≡ base_add (from_montgomery a) (from_montgomery b)
  pub from_mul : (a b : ℕ) → a < p → b < p → through from_montgomery (montgomery_mul a b) ≡ base_mul (from_montgomery a) (from_montgomery b)
  pub from_inverse : (a : ℕ) → a < p → through from_montgomery (montgomery_inverted a) ≡ base_inverse (from_montgomery a)
  pub zero_alone : (a : ℕ) → montgomery_inverted a ≡ Err ZeroDenominator ↔ a ≡ 0
