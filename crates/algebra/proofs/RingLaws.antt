-- What follows from the laws of a commutative ring, and the numbers in it.
use mathlib.Core.Path.{◌≡◌, ap, ap₂, sym, ◌∙◌}
use Prim.Native.Nat.{ℕ, zero, suc, ◌+◌, ◌*◌}
use native.Mathlib.Nat as number
use Rattle.algebra.specs.Ring.{CommRing}

module _ (R : CommRing) where
  open R use {Carrier as C, zero as o, one as i, add, mul, neg, add_assoc, add_comm, add-zero, add-neg, mul_assoc, mul_comm, mul-one, distrib}

  pub zero-add : (a : C) → add o a ≡ a
  zero-add a = add_comm o a ∙ add-zero a

  neg_add_self : (a : C) → add (neg a) a ≡ o
  neg_add_self a = add_comm (neg a) a ∙ add-neg a

  add_left_comm : (a b c : C) → add a (add b c) ≡ add b (add a c)
  add_left_comm a b c = sym (add_assoc a b c) ∙ ap (λ x. add x c) (add_comm a b) ∙ add_assoc b a c

  pub mul_left_comm : (a b c : C) → mul a (mul b c) ≡ mul b (mul a c)
  mul_left_comm a b c = sym (mul_assoc a b c) ∙ ap (λ x. mul x c) (mul_comm a b) ∙ mul_assoc b a c

  pub add-swap : (a b c d : C) → add (add a b) (add c d) ≡ add (add a c) (add b d)
  add-swap a b c d = add_assoc a b (add c d) ∙ ap (add a) (add_left_comm b c d) ∙ sym (add_assoc a c (add b d))

  pub add-cancel : (a b c : C) → add a b ≡ add a c → b ≡ c
  add-cancel a b c h = sym (back b) ∙ ap (add (neg a)) h ∙ back c
    where
      back : (x : C) → add (neg a) (add a x) ≡ x
      back x = sym (add_assoc (neg a) a x) ∙ ap (λ y. add y x) (neg_add_self a) ∙ zero-add x

  pub mul_zero : (a : C) → mul a o ≡ o
  mul_zero a = add-cancel (mul a o) (mul a o) o (sym (distrib a o o) ∙ ap (mul a) (add-zero o) ∙ sym (add-zero (mul a o)))

  pub zero-mul : (a : C) → mul o a ≡ o
  zero-mul a = mul_comm o a ∙ mul_zero a

  pub one-mul : (a : C) → mul i a ≡ a
  one-mul a = mul_comm i a ∙ mul-one a

  pub distrib_right : (a b c : C) → mul (add a b) c ≡ add (mul a c) (mul b c)
  distrib_right a b c = mul_comm (add a b) c ∙ distrib c a b ∙ ap₂ add (mul_comm c a) (mul_comm c b)

  pub neg_unique : (a b : C) → add a b ≡ o → b ≡ neg a
  neg_unique a b h = add-cancel a b (neg a) (h ∙ sym (add-neg a))

  pub neg_zero : neg o ≡ o
  neg_zero = sym (neg_unique o o (add-zero o))

  pub neg_neg : (a : C) → neg (neg a) ≡ a
  neg_neg a = sym (neg_unique (neg a) a (neg_add_self a))

  pub neg_add : (a b : C) → neg (add a b) ≡ add (neg a) (neg b)
  neg_add a b =
      sym (neg_unique (add a b) (add (neg a) (neg b))
      (add-swap a b (neg a) (neg b) ∙ ap₂ add (add-neg a) (add-neg b) ∙ add-zero o))

  pub mul-neg : (a b : C) → mul a (neg b) ≡ neg (mul a b)
  mul-neg a b = neg_unique (mul a b) (mul a (neg b)) (sym (distrib a b (neg b)) ∙ ap (mul a) (add-neg b) ∙ mul_zero a)

  pub neg_mul : (a b : C) → mul (neg a) b ≡ neg (mul a b)
  neg_mul a b = mul_comm (neg a) b ∙ mul-neg b a ∙ ap neg (mul_comm b a)

  pub eq_of_sub : (a b : C) → add a (neg b) ≡ o → a ≡ b
  eq_of_sub a b h = sym (neg_neg a) ∙ sym (ap neg (neg_unique a (neg b) h)) ∙ neg_neg b

  -- the number n in the ring: 1 + ... + 1
  unfoldable pub nat : ℕ → C
  nat zero = o
  nat (suc n) = add i (nat n)

  pub nat_add : (a b : ℕ) → nat (a + b) ≡ add (nat a) (nat b)
  unfolding nat
  nat_add zero b = ap nat (number.zero-add b) ∙ sym (zero-add (nat b))
  nat_add (suc a) b = ap nat (number.suc-add a b) ∙ ap (add i) (nat_add a b) ∙ sym (add_assoc i (nat a) (nat b))

  pub nat_mul : (a b : ℕ) → nat (a * b) ≡ mul (nat a) (nat b)
  unfolding nat
  nat_mul zero b = ap nat (number.zero-mul b) ∙ sym (zero-mul (nat b))
  nat_mul (suc a) b =
      ap nat (number.suc-mul a b) ∙ nat_add (a * b) b ∙ add_comm (nat (a * b)) (nat b)
      ∙ ap₂ add (sym (one-mul (nat b))) (nat_mul a b)
      ∙ sym (distrib_right i (nat a) (nat b))

  pub nat_one : nat 1 ≡ i
  unfolding nat
  nat_one = add-zero i
