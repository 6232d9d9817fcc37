-- A polynomial over a field has fewer roots than coefficients: each root takes out a factor.
use mathlib.Core.Path.{◌≡◌, refl, ap, ap₂, sym, ◌∙◌}
use mathlib.Core.List.{List, [], ◌∷◌}
use mathlib.Core.Logic.{◌≢◌}
use Prim.Native.Nat.{suc, ◌≤◌, ◌<◌}
use native.Mathlib.Omega.{arith}
use native.Mathlib.Nat.{lt_of_not-le}
use lib.ListN.{length}
use Rattle.algebra.specs.Ring.{CommRing, Field}
use Rattle.algebra.specs.Polynomial.{All, Distinct}
use Rattle.algebra.proofs.RingLaws.{mul_zero, eq_of_sub}
use Rattle.algebra.proofs.Solver.{nil, ◌⊕◌, ◌⊗◌, ⊖◌, solve, v0, v1, v2, v3, v4}
use Rattle.algebra.proofs.FieldLaws.{field_cancel}

module _ (R : CommRing) where
  open R use {Carrier as C, zero as o, add, mul, neg, add-zero}

  unfoldable pub eval : List C → C → C
  eval [] x = o
  eval (a ∷ l) x = add a (mul x (eval l x))

  abbrev pub Zero : List C → Type 0
  Zero l = All (λ a. a ≡ o) l

  -- of a + X l by X - r, for any a
  quotient : C → List C → List C
  quotient r [] = []
  quotient r (b ∷ l) = eval (b ∷ l) r ∷ quotient r l

  quotient_length : (r : C) (l : List C) → length (quotient r l) ≡ length l
  unfolding quotient
  quotient_length r [] = refl
  quotient_length r (b ∷ l) = ap suc (quotient_length r l)

  quotient_eval : (r x : C) (l : List C) → mul x (eval l x) ≡ add (mul (add x (neg r)) (eval (quotient r l) x)) (mul r (eval l r))
  unfolding quotient eval
  quotient_eval r x [] = solve R (x ∷ r ∷ []) (v0 ⊗ nil) ((v0 ⊕ ⊖ v1) ⊗ nil ⊕ v1 ⊗ nil) tt
  quotient_eval r x (b ∷ l) =
      ap (λ y. mul x (add b y)) (quotient_eval r x l)
      ∙ solve R (x ∷ r ∷ b ∷ eval (quotient r l) x ∷ eval l r ∷ [])
      (v0 ⊗ (v2 ⊕ ((v0 ⊕ ⊖ v1) ⊗ v3 ⊕ v1 ⊗ v4)))
      ((v0 ⊕ ⊖ v1) ⊗ ((v2 ⊕ v1 ⊗ v4) ⊕ v0 ⊗ v3) ⊕ v1 ⊗ (v2 ⊕ v1 ⊗ v4)) tt

  -- the factor theorem
  factor : (r x a : C) (l : List C) → eval (a ∷ l) x ≡ add (mul (add x (neg r)) (eval (quotient r l) x)) (eval (a ∷ l) r)
  unfolding eval
  factor r x a l =
      ap (add a) (quotient_eval r x l)
      ∙ solve R (a ∷ mul (add x (neg r)) (eval (quotient r l) x) ∷ mul r (eval l r) ∷ []) (v0 ⊕ (v1 ⊕ v2)) (v1 ⊕ (v0 ⊕ v2)) tt

  eval_zero : (l : List C) (x : C) → Zero l → eval l x ≡ o
  unfolding eval
  eval_zero [] x z = refl
  eval_zero (a ∷ l) x z = ap₂ add z.0 (ap (mul x) (eval_zero l x z.1) ∙ mul_zero R x) ∙ add-zero o

  head_zero : (a r : C) (l : List C) → Zero l → eval (a ∷ l) r ≡ o → a ≡ o
  unfolding eval
  head_zero a r l z e = sym (add-zero a) ∙ ap (add a) (sym (ap (mul r) (eval_zero l r z) ∙ mul_zero R r)) ∙ e

  quotient_zero : (r : C) (l : List C) → Zero (quotient r l) → Zero l
  unfolding quotient
  quotient_zero r [] z = tt
  quotient_zero r (b ∷ l) z = let t = quotient_zero r l z.1 in (head_zero b r l t z.0, t)

  module _ (K : Field R) where
    deflate : (r a : C) (l xs : List C) → eval (a ∷ l) r ≡ o → All (λ y. y ≢ r) xs → All (λ y. eval (a ∷ l) y ≡ o) xs
        → All (λ y. eval (quotient r l) y ≡ o) xs
    deflate r a l [] e d z = tt
    deflate r a l (y ∷ xs) e d z = (
      field_cancel R K (add y (neg r)) (eval (quotient r l) y) (λ q. d.0 (eq_of_sub R y r q))
          (sym (add-zero (mul (add y (neg r)) (eval (quotient r l) y))) ∙ ap (add (mul (add y (neg r)) (eval (quotient r l) y))) (sym e)
          ∙ sym (factor r y a l) ∙ z.0),
      deflate r a l xs e d.1 z.1,
    )

    many_roots : (xs l : List C) → Distinct xs → All (λ y. eval l y ≡ o) xs → length l ≤ length xs → Zero l
    many_roots [] [] d z h = tt
    many_roots [] (a ∷ l) d z h = absurd (omega arith)
    many_roots (r ∷ xs) [] d z h = tt
    many_roots (r ∷ xs) (a ∷ l) d z h =
        let t : Zero l =
        quotient_zero r l (many_roots xs (quotient r l) d.1 (deflate r a l xs z.0 d.0 z.1) (omega (arith, quotient_length r l))) in
        (head_zero a r l t z.0, t)

    pub root_bound : (l xs : List C) → ¬ Zero l → Distinct xs → All (λ y. eval l y ≡ o) xs → length xs < length l
    root_bound l xs ne d z = lt_of_not-le (λ h. ne (many_roots xs l d z h))
