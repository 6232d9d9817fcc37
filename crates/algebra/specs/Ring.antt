-- Commutative rings and fields, as records of their laws.
use Rattle.std.specs.Prelude.{◌≡◌, ◌≢◌}

pub record CommRing : Type 1 where
  pub Carrier : Type 0
  pub zero : Carrier
  pub one : Carrier
  pub add : Carrier → Carrier → Carrier
  pub mul : Carrier → Carrier → Carrier
  pub neg : Carrier → Carrier
  pub add_assoc : (a b c : Carrier) → add (add a b) c ≡ add a (add b c)
  pub add_comm : (a b : Carrier) → add a b ≡ add b a
  pub add-zero : (a : Carrier) → add a zero ≡ a
  pub add-neg : (a : Carrier) → add a (neg a) ≡ zero
  pub mul_assoc : (a b c : Carrier) → mul (mul a b) c ≡ mul a (mul b c)
  pub mul_comm : (a b : Carrier) → mul a b ≡ mul b a
  pub mul-one : (a : Carrier) → mul a one ≡ a
  pub distrib : (a b c : Carrier) → mul a (add b c) ≡ add (mul a b) (mul a c)

pub record Field (R : CommRing) : Type 0 where
  pub one≢zero : R.one ≢ R.zero
  pub discrete : (a b : R.Carrier) → Dec (a ≡ b)
  pub inverse : (a : R.Carrier) → a ≢ R.zero → (b : R.Carrier) × (R.mul a b ≡ R.one)
