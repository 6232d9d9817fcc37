-- Evaluation columns: the cell is a polynomial in the indeterminate; its coefficients are 1 and then the entries, the highest first.
use mathlib.Core.Path.{◌≡◌, refl, ap, ap₂, sym, ◌∙◌}
use mathlib.Core.List.{List, [], ◌∷◌, ◌++◌, reverse, reverse_aux, reverse_aux-eq, reverse-reverse}
use mathlib.Core.Logic.{◌≢◌}
use Prim.Native.Nat.{suc, ◌≤◌, max}
use native.Mathlib.Omega.{arith}
use lib.ListN.{length, length-append, length-reverse}
use Rattle.algebra.specs.Ring.{CommRing, Field}
use Rattle.algebra.specs.Polynomial.{All, Distinct}
use Rattle.algebra.proofs.RingLaws.{mul_zero}
use Rattle.algebra.proofs.Roots.{eval, Zero, root_bound}
use Rattle.terms.proofs.Polynomials.{sub, add_multiple, difference, add_multiple_length, eval_difference, eq_of_difference}

module _ (R : CommRing) where
  open R use {Carrier as C, zero as o, one as i, add, mul, neg, add_comm, add-zero, add-neg}

  -- r → x·r + e, from r on
  unfoldable pub evaluation : C → C → List C → C
  evaluation x r [] = r
  evaluation x r (e ∷ es) = evaluation x (add (mul x r) e) es

  polynomial : List C → List C
  polynomial es = reverse es ++ (i ∷ [])

  polynomial_length : (es : List C) → length (polynomial es) ≡ suc (length es)
  unfolding polynomial
  polynomial_length es = simp (length-append, length-reverse) (omega arith)

  eval_reverse : (x : C) (es l : List C) → eval R (reverse_aux es l) x ≡ evaluation x (eval R l x) es
  unfolding eval evaluation
  eval_reverse x [] l = refl
  eval_reverse x (e ∷ es) l = eval_reverse x es (e ∷ l) ∙ ap (λ r. evaluation x r es) (add_comm e (mul x (eval R l x)))

  eval_one : (x : C) → eval R (i ∷ []) x ≡ i
  unfolding eval
  eval_one x = ap (add i) (mul_zero R x) ∙ add-zero i

  eval_polynomial : (x : C) (es : List C) → eval R (polynomial es) x ≡ evaluation x i es
  unfolding polynomial
  eval_polynomial x es =
      ap (λ l. eval R l x) (sym (reverse_aux-eq es (i ∷ []))) ∙ eval_reverse x es (i ∷ []) ∙ ap (λ r. evaluation x r es) (eval_one x)

  module _ (K : Field R) where
    longer_left : (l : List C) → ¬ Zero R (difference R (l ++ (i ∷ [])) [])
    unfolding add_multiple
    longer_left [] z = K.one≢zero z.0
    longer_left (a ∷ []) z = K.one≢zero z.1.0
    longer_left (a ∷ b ∷ l) z = longer_left (b ∷ l) z.1

    longer_right : (l : List C) → ¬ Zero R (difference R [] (l ++ (i ∷ [])))
    unfolding add_multiple
    longer_right [] z = K.one≢zero (sym (eq_of_difference R o i (ap (add o) z.0 ∙ add-zero o)))
    longer_right (a ∷ l) z = longer_right l z.1

    -- two polynomials with leading coefficient 1 whose difference is zero are one
    monic : (l m : List C) → Zero R (difference R (l ++ (i ∷ [])) (m ++ (i ∷ []))) → l ≡ m
    unfolding add_multiple
    monic [] [] z = refl
    monic [] (b ∷ m) z = absurd (longer_right m z.1)
    monic (a ∷ l) [] z = absurd (longer_left l z.1)
    monic (a ∷ l) (b ∷ m) z = ap₂ ◌∷◌ (eq_of_difference R a b z.0) (monic l m z.1)

    polynomial_injective : (es fs : List C) → Zero R (difference R (polynomial es) (polynomial fs)) → es ≡ fs
    unfolding polynomial
    polynomial_injective es fs z = sym (reverse-reverse es) ∙ ap reverse (monic (reverse es) (reverse fs) z) ∙ reverse-reverse fs

    roots : (es fs xs : List C) → All (λ x. evaluation x i es ≡ evaluation x i fs) xs
        → All (λ x. eval R (difference R (polynomial es) (polynomial fs)) x ≡ o) xs
    roots es fs [] z = tt
    roots es fs (x ∷ xs) z = (
      eval_difference R (polynomial es) (polynomial fs) x
          ∙ ap₂ (sub R) (eval_polynomial x es ∙ z.0) (eval_polynomial x fs) ∙ add-neg (evaluation x i fs),
      roots es fs xs z.1,
    )

    pub evaluation_bound : (es fs : List C) → es ≢ fs → (xs : List C) → Distinct xs → All (λ x. evaluation x i es ≡ evaluation x i fs) xs
        → length xs ≤ max (length es) (length fs)
    evaluation_bound es fs ne xs d z =
        let h = root_bound R K (difference R (polynomial es) (polynomial fs)) xs (λ q. ne (polynomial_injective es fs q)) d (roots es fs xs z) in
        omega (arith, h, add_multiple_length R (neg i) (polynomial es) (polynomial fs), polynomial_length es, polynomial_length fs)
