-- Polynomials as lists of coefficients: sums, products with X - e, and the product of X - e over a list.
use mathlib.Core.Path.{◌≡◌, refl, ap, ap₂, sym, ◌∙◌}
use mathlib.Core.List.{List, [], ◌∷◌}
use mathlib.Core.Logic.{◌≢◌}
use Prim.Native.Nat.{suc, max}
use native.Mathlib.Omega.{arith}
use lib.ListN.{length}
use Rattle.algebra.specs.Ring.{CommRing, Field}
use Rattle.algebra.specs.Polynomial.{All}
use Rattle.algebra.proofs.RingLaws.{mul_zero, zero-mul, eq_of_sub}
use Rattle.algebra.proofs.Solver.{nil, one, ◌⊕◌, ◌⊗◌, ⊖◌, solve, v0, v1, v2, v3, v4, v5}
use Rattle.algebra.proofs.FieldLaws.{field_cancel}
use Rattle.algebra.proofs.Roots.{eval, Zero}

module _ (R : CommRing) where
  open R use {Carrier as C, zero as o, one as i, add, mul, neg, add-zero, add-neg}

  abbrev pub sub : C → C → C
  sub a b = add a (neg b)

  eval_zero : (l : List C) (x : C) → Zero R l → eval R l x ≡ o
  unfolding eval
  eval_zero [] x z = refl
  eval_zero (a ∷ l) x z = ap₂ add z.0 (ap (mul x) (eval_zero l x z.1) ∙ mul_zero R x) ∙ add-zero o

  pub nonzero_at : (l : List C) (x : C) → eval R l x ≢ o → ¬ Zero R l
  nonzero_at l x ne z = ne (eval_zero l x z)

  -- l + c·m
  unfoldable pub add_multiple : C → List C → List C → List C
  add_multiple c [] [] = []
  add_multiple c [] (b ∷ m) = mul c b ∷ add_multiple c [] m
  add_multiple c (a ∷ l) [] = a ∷ l
  add_multiple c (a ∷ l) (b ∷ m) = add a (mul c b) ∷ add_multiple c l m

  pub add_multiple_length : (c : C) (l m : List C) → length (add_multiple c l m) ≡ max (length l) (length m)
  unfolding add_multiple
  add_multiple_length c [] [] = omega arith
  add_multiple_length c [] (b ∷ m) = omega (arith, add_multiple_length c [] m)
  add_multiple_length c (a ∷ l) [] = omega arith
  add_multiple_length c (a ∷ l) (b ∷ m) = omega (arith, add_multiple_length c l m)

  pub eval_add_multiple : (c : C) (l m : List C) (x : C) → eval R (add_multiple c l m) x ≡ add (eval R l x) (mul c (eval R m x))
  unfolding add_multiple eval
  eval_add_multiple c [] [] x = solve R (c ∷ []) nil (nil ⊕ v0 ⊗ nil) tt
  eval_add_multiple c [] (b ∷ m) x =
      ap (λ y. add (mul c b) (mul x y)) (eval_add_multiple c [] m x)
      ∙ solve R (c ∷ x ∷ b ∷ eval R m x ∷ []) (v0 ⊗ v2 ⊕ v1 ⊗ (nil ⊕ v0 ⊗ v3)) (nil ⊕ v0 ⊗ (v2 ⊕ v1 ⊗ v3)) tt
  eval_add_multiple c (a ∷ l) [] x = solve R (c ∷ eval R (a ∷ l) x ∷ []) v1 (v1 ⊕ v0 ⊗ nil) tt
  eval_add_multiple c (a ∷ l) (b ∷ m) x =
      ap (λ y. add (add a (mul c b)) (mul x y)) (eval_add_multiple c l m x)
      ∙ solve R (c ∷ x ∷ a ∷ b ∷ eval R l x ∷ eval R m x ∷ [])
      ((v2 ⊕ v0 ⊗ v3) ⊕ v1 ⊗ (v4 ⊕ v0 ⊗ v5)) ((v2 ⊕ v1 ⊗ v4) ⊕ v0 ⊗ (v3 ⊕ v1 ⊗ v5)) tt

  abbrev pub difference : List C → List C → List C
  difference l m = add_multiple (neg i) l m

  minus_one : (a b : C) → add a (mul (neg i) b) ≡ sub a b
  minus_one a b = solve R (a ∷ b ∷ []) (v0 ⊕ ⊖ one ⊗ v1) (v0 ⊕ ⊖ v1) tt

  pub eval_difference : (l m : List C) (x : C) → eval R (difference l m) x ≡ sub (eval R l x) (eval R m x)
  eval_difference l m x = eval_add_multiple (neg i) l m x ∙ minus_one (eval R l x) (eval R m x)

  pub eq_of_difference : (a b : C) → add a (mul (neg i) b) ≡ o → a ≡ b
  eq_of_difference a b z = eq_of_sub R a b (sym (minus_one a b) ∙ z)

  -- a + (X - e)·l
  unfoldable pub times : C → C → List C → List C
  times e a [] = a ∷ []
  times e a (b ∷ l) = sub a (mul e b) ∷ times e b l

  pub times_length : (e a : C) (l : List C) → length (times e a l) ≡ suc (length l)
  unfolding times
  times_length e a [] = refl
  times_length e a (b ∷ l) = ap suc (times_length e b l)

  eval_times_from : (e a x : C) (l : List C) → eval R (times e a l) x ≡ add a (mul (sub x e) (eval R l x))
  unfolding times eval
  eval_times_from e a x [] = solve R (e ∷ a ∷ x ∷ []) (v1 ⊕ v2 ⊗ nil) (v1 ⊕ (v2 ⊕ ⊖ v0) ⊗ nil) tt
  eval_times_from e a x (b ∷ l) =
      ap (λ y. add (sub a (mul e b)) (mul x y)) (eval_times_from e b x l)
      ∙ solve R (e ∷ a ∷ x ∷ b ∷ eval R l x ∷ [])
      ((v1 ⊕ ⊖ (v0 ⊗ v3)) ⊕ v2 ⊗ (v3 ⊕ (v2 ⊕ ⊖ v0) ⊗ v4)) (v1 ⊕ (v2 ⊕ ⊖ v0) ⊗ (v3 ⊕ v2 ⊗ v4)) tt

  pub eval_times : (e x : C) (l : List C) → eval R (times e o l) x ≡ mul (sub x e) (eval R l x)
  eval_times e x l = eval_times_from e o x l ∙ solve R (mul (sub x e) (eval R l x) ∷ []) (nil ⊕ v0) v0 tt

  times_zero_from : (e a : C) (l : List C) → Zero R (times e a l) → (a ≡ o) × Zero R l
  unfolding times
  times_zero_from e a [] z = (z.0, tt)
  times_zero_from e a (b ∷ l) z =
      let t = times_zero_from e b l z.1 in
      (eq_of_sub R a (mul e b) z.0 ∙ ap (mul e) t.0 ∙ mul_zero R e, t)

  pub times_zero : (e : C) (l : List C) → Zero R (times e o l) → Zero R l
  times_zero e l z = (times_zero_from e o l z).1

  -- the product of x - e over a list, and its polynomial
  unfoldable pub product : C → List C → C
  product x [] = i
  product x (e ∷ es) = mul (sub x e) (product x es)

  unfoldable pub product_of : List C → List C
  product_of [] = i ∷ []
  product_of (e ∷ es) = times e o (product_of es)

  pub product_of_length : (es : List C) → length (product_of es) ≡ suc (length es)
  unfolding product_of
  product_of_length [] = refl
  product_of_length (e ∷ es) = times_length e o (product_of es) ∙ ap suc (product_of_length es)

  pub eval_product_of : (x : C) (es : List C) → eval R (product_of es) x ≡ product x es
  unfolding product_of product eval
  eval_product_of x [] = ap (add i) (mul_zero R x) ∙ add-zero i
  eval_product_of x (e ∷ es) = eval_times e x (product_of es) ∙ ap (mul (sub x e)) (eval_product_of x es)

  pub product-self : (e : C) (es : List C) → product e (e ∷ es) ≡ o
  unfolding product
  product-self e es = ap (λ y. mul y (product e es)) (add-neg e) ∙ zero-mul R (product e es)

  pub product-nonzero : Field R → (x : C) (es : List C) → All (λ e. e ≢ x) es → product x es ≢ o
  unfolding product
  product-nonzero K x [] d z = K.one≢zero z
  product-nonzero K x (e ∷ es) d z =
      product-nonzero K x es d.1 (field_cancel R K (sub x e) (product x es) (λ q. d.0 (sym (eq_of_sub R x e q))) z)
