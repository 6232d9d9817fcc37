-- Lookup columns: the cell is the sum of n / (x - e) over the fractions; over one denominator its numerator has few roots.
use mathlib.Core.Path.{◌≡◌, refl, ap, ap₂, sym, ◌∙◌, subst}
use mathlib.Core.List.{List, [], ◌∷◌, ◌++◌, map}
use mathlib.Core.Logic.{◌≢◌}
use Prim.Native.Nat.{ℕ, suc, ◌+◌, ◌≤◌, ◌<◌}
use native.Mathlib.Omega.{arith}
use lib.ListN.{length, length-append, length-map}
use Rattle.algebra.specs.Ring.{CommRing, Field}
use Rattle.algebra.specs.Polynomial.{All, Distinct}
use Rattle.algebra.proofs.RingLaws.{mul_zero, zero-add, eq_of_sub}
use Rattle.algebra.proofs.Solver.{nil, ◌⊕◌, ◌⊗◌, ⊖◌, solve, v0, v1, v2, v3, v4}
use Rattle.algebra.proofs.FieldLaws.{field_cancel}
use Rattle.algebra.proofs.Roots.{eval, root_bound}
use Rattle.terms.proofs.Lists.{All-map, All-append}
use Rattle.terms.proofs.Tests.{choose}
use Rattle.terms.proofs.Polynomials.{sub, add_multiple, add_multiple_length, eval_add_multiple, times, times_length, eval_times, product, product_of, product_of_length, eval_product_of, product-nonzero, nonzero_at}

-- numerator / (x - symbol)
pub record Term (C : Type 0) : Type 0 where
  pub numerator : C
  pub symbol : C

module _ (R : CommRing) (K : Field R) where
  open R use {Carrier as C, zero as o, one as i, add, mul, neg, add-neg, add_assoc, mul-one}

  inverse_by : (a : C) → Dec (a ≡ o) → C
  inverse_by a (yes z) = o
  inverse_by a (no n) = (K.inverse a n).0

  -- 1 / a, and 0 at 0
  pub inverse : C → C
  inverse a = inverse_by a (K.discrete a o)

  pub mul-inverse : (a : C) → a ≢ o → mul a (inverse a) ≡ i
  unfolding inverse inverse_by
  mul-inverse a ne = go (K.discrete a o)
    where
      go : (d : Dec (a ≡ o)) → mul a (inverse_by a d) ≡ i
      go (yes z) = absurd (ne z)
      go (no n) = (K.inverse a n).1

  abbrev pub value_at : C → Term C → C
  value_at x w = mul w.numerator (inverse (sub R x w.symbol))

  unfoldable pub sum : C → List (Term C) → C
  sum x [] = o
  sum x (w ∷ ws) = add (value_at x w) (sum x ws)

  abbrev symbols : List (Term C) → List C
  symbols ws = map (λ w. w.symbol) ws

  -- no denominator is zero
  abbrev pub Defined : C → List (Term C) → Type 0
  Defined x ws = All (λ w. sub R x w.symbol ≢ o) ws

  -- the numerators of e's fractions, summed
  unfoldable pub total : C → List (Term C) → C
  total e [] = o
  total e (w ∷ ws) = add (choose (K.discrete w.symbol e) w.numerator o) (total e ws)

  -- the fractions of the elements other than e
  others : C → List (Term C) → List (Term C)
  others e [] = []
  others e (w ∷ ws) = choose (K.discrete w.symbol e) (others e ws) (w ∷ others e ws)

  -- the fractions of e joined to one
  abbrev joined : C → List (Term C) → List (Term C)
  joined e ws = record { numerator = total e ws; symbol = e } ∷ others e ws

  joined_sum : (x e : C) (ws : List (Term C)) → sum x ws ≡ sum x (joined e ws)
  unfolding sum total others
  joined_sum x e [] = solve R (inverse (sub R x e) ∷ []) nil (nil ⊗ v0 ⊕ nil) tt
  joined_sum x e (w ∷ ws) = go (K.discrete w.symbol e) (joined_sum x e ws)
    where
      go : (d : Dec (w.symbol ≡ e)) → sum x ws ≡ sum x (joined e ws)
          → add (value_at x w) (sum x ws)
          ≡ add (mul (add (choose d w.numerator o) (total e ws)) (inverse (sub R x e))) (sum x (choose d (others e ws) (w ∷ others e ws)))
      go (yes q) h =
          ap₂ (λ y s. add (mul w.numerator (inverse (sub R x y))) s) q h
          ∙ solve R (w.numerator ∷ inverse (sub R x e) ∷ total e ws ∷ sum x (others e ws) ∷ [])
          (v0 ⊗ v1 ⊕ (v2 ⊗ v1 ⊕ v3)) ((v0 ⊕ v2) ⊗ v1 ⊕ v3) tt
      go (no n) h =
          ap (add (value_at x w)) h
          ∙ solve R (value_at x w ∷ inverse (sub R x e) ∷ total e ws ∷ sum x (others e ws) ∷ [])
          (v0 ⊕ (v2 ⊗ v1 ⊕ v3)) ((nil ⊕ v2) ⊗ v1 ⊕ (v0 ⊕ v3)) tt

  others_all : (Q : Term C → Type 0) (e : C) (ws : List (Term C)) → All Q ws → All Q (others e ws)
  unfolding others
  others_all Q e [] q = tt
  others_all Q e (w ∷ ws) q = go (K.discrete w.symbol e) (others_all Q e ws q.1)
    where
      go : (d : Dec (w.symbol ≡ e)) → All Q (others e ws) → All Q (choose d (others e ws) (w ∷ others e ws))
      go (yes p) h = h
      go (no n) h = (q.0, h)

  others_apart : (e : C) (ws : List (Term C)) → All (λ y. y ≢ e) (symbols (others e ws))
  unfolding others
  others_apart e [] = tt
  others_apart e (w ∷ ws) = go (K.discrete w.symbol e) (others_apart e ws)
    where
      go : (d : Dec (w.symbol ≡ e)) → All (λ y. y ≢ e) (symbols (others e ws)) → All (λ y. y ≢ e) (symbols (choose d (others e ws) (w ∷ others e ws)))
      go (yes p) h = h
      go (no n) h = (n, h)

  others_length : (e : C) (ws : List (Term C)) → length (others e ws) ≤ length ws
  unfolding others
  others_length e [] = omega arith
  others_length e (w ∷ ws) = go (K.discrete w.symbol e) (others_length e ws)
    where
      go : (d : Dec (w.symbol ≡ e)) → length (others e ws) ≤ length ws → length (choose d (others e ws) (w ∷ others e ws)) ≤ suc (length ws)
      go (yes p) h = omega arith
      go (no n) h = omega arith

  -- an element whose numerators do not sum to zero has a fraction
  others_fewer : (e : C) (ws : List (Term C)) → total e ws ≢ o → length (others e ws) < length ws
  unfolding total others
  others_fewer e [] ne = absurd (ne refl)
  others_fewer e (w ∷ ws) ne = go (K.discrete w.symbol e) ne (others_fewer e ws)
    where
      go : (d : Dec (w.symbol ≡ e)) → add (choose d w.numerator o) (total e ws) ≢ o → (total e ws ≢ o → length (others e ws) < length ws)
          → length (choose d (others e ws) (w ∷ others e ws)) < suc (length ws)
      go (yes p) h recur = omega (arith, others_length e ws)
      go (no n) h recur = omega (arith, recur (λ z. h (zero-add R (total e ws) ∙ z)))

  total_found : (Q : C → Type 0) (e : C) (ws : List (Term C)) → total e ws ≢ o → All (λ w. Q w.symbol) ws → Q e
  unfolding total
  total_found Q e [] ne q = absurd (ne refl)
  total_found Q e (w ∷ ws) ne q = go (K.discrete w.symbol e) ne (λ h. total_found Q e ws h q.1)
    where
      go : (d : Dec (w.symbol ≡ e)) → add (choose d w.numerator o) (total e ws) ≢ o → (total e ws ≢ o → Q e) → Q e
      go (yes p) h recur = subst Q p q.0
      go (no n) h recur = recur (λ z. h (zero-add R (total e ws) ∙ z))

  -- the sum's numerator over the product of all denominators
  numerator_of : List (Term C) → List C
  numerator_of [] = []
  numerator_of (w ∷ ws) = add_multiple R w.numerator (times R w.symbol o (numerator_of ws)) (product_of R (symbols ws))

  numerator_of_length : (ws : List (Term C)) → length (numerator_of ws) ≡ length ws
  unfolding numerator_of
  numerator_of_length [] = refl
  numerator_of_length (w ∷ ws) =
      let h = add_multiple_length R w.numerator (times R w.symbol o (numerator_of ws)) (product_of R (symbols ws)) in
      omega (
        arith,
        h,
        times_length R w.symbol o (numerator_of ws),
        product_of_length R (symbols ws),
        length-map ws (λ w. w.symbol),
        numerator_of_length ws,
      )

  eval_cons : (x : C) (w : Term C) (ws : List (Term C))
      → eval R (numerator_of (w ∷ ws)) x ≡ add (mul (sub R x w.symbol) (eval R (numerator_of ws) x)) (mul w.numerator (product R x (symbols ws)))
  unfolding numerator_of
  eval_cons x w ws =
      eval_add_multiple R w.numerator (times R w.symbol o (numerator_of ws)) (product_of R (symbols ws)) x
      ∙ ap₂ (λ y z. add y (mul w.numerator z)) (eval_times R w.symbol x (numerator_of ws)) (eval_product_of R x (symbols ws))

  eval_numerator_of : (x : C) (ws : List (Term C)) → Defined x ws → eval R (numerator_of ws) x ≡ mul (product R x (symbols ws)) (sum x ws)
  unfolding numerator_of eval product sum
  eval_numerator_of x [] h = sym (mul_zero R i)
  eval_numerator_of x (w ∷ ws) h =
      eval_cons x w ws
      ∙ ap₂ (λ y z. add (mul (sub R x w.symbol) y) (mul z (product R x (symbols ws)))) (eval_numerator_of x ws h.1)
      (sym (mul-one w.numerator) ∙ ap (mul w.numerator) (sym (mul-inverse (sub R x w.symbol) h.0)))
      ∙ solve R (sub R x w.symbol ∷ product R x (symbols ws) ∷ sum x ws ∷ w.numerator ∷ inverse (sub R x w.symbol) ∷ [])
      (v0 ⊗ (v1 ⊗ v2) ⊕ (v3 ⊗ (v0 ⊗ v4)) ⊗ v1) ((v0 ⊗ v1) ⊗ (v3 ⊗ v4 ⊕ v2)) tt

  -- at e only the joined fraction's term is left, and it is not zero
  nonzero : (e : C) (ws : List (Term C)) → total e ws ≢ o → eval R (numerator_of (joined e ws)) e ≢ o
  nonzero e ws ne z =
      product-nonzero R K e (symbols (others e ws)) (others_apart e ws)
      (field_cancel R K (total e ws) (product R e (symbols (others e ws))) ne
      (solve R (e ∷ eval R (numerator_of (others e ws)) e ∷ mul (total e ws) (product R e (symbols (others e ws))) ∷ []) v2 ((v0 ⊕ ⊖ v0) ⊗ v1 ⊕ v2) tt
      ∙ sym (eval_cons e (record { numerator = total e ws; symbol = e }) (others e ws)) ∙ z))

  roots : (e : C) (ws : List (Term C)) → total e ws ≢ o → (xs : List C) → All (λ x. Defined x ws × (sum x ws ≡ o)) xs
      → All (λ x. eval R (numerator_of (joined e ws)) x ≡ o) xs
  roots e ws ne [] z = tt
  roots e ws ne (x ∷ xs) z = (
    eval_numerator_of x (joined e ws)
        (total_found (λ y. sub R x y ≢ o) e ws ne z.0.0, others_all (λ w. sub R x w.symbol ≢ o) e ws z.0.0)
        ∙ ap (mul (product R x (symbols (joined e ws)))) (sym (joined_sum x e ws) ∙ z.0.1)
        ∙ mul_zero R (product R x (symbols (joined e ws))),
    roots e ws ne xs z.1,
  )

  -- a sum of fractions has fewer zeros than fractions
  sum_bound : (ws : List (Term C)) (e : C) → total e ws ≢ o → (xs : List C) → Distinct xs → All (λ x. Defined x ws × (sum x ws ≡ o)) xs
      → length xs < length ws
  sum_bound ws e ne xs d z =
      let h = root_bound R K (numerator_of (joined e ws)) xs (nonzero_at R (numerator_of (joined e ws)) e (nonzero e ws ne)) d (roots e ws ne xs z) in
      omega (arith, h, numerator_of_length (joined e ws), others_fewer e ws ne)

  opposite : Term C → Term C
  opposite w = record { numerator = neg w.numerator; symbol = w.symbol }

  -- two sums as one, their difference
  both : List (Term C) → List (Term C) → List (Term C)
  both es fs = es ++ map opposite fs

  both_length : (es fs : List (Term C)) → length (both es fs) ≡ length es + length fs
  unfolding both
  both_length es fs = length-append es (map opposite fs) ∙ ap (λ (n : ℕ). length es + n) (length-map fs opposite)

  both_sum : (x : C) (es fs : List (Term C)) → sum x (both es fs) ≡ sub R (sum x es) (sum x fs)
  unfolding both sum opposite
  both_sum x [] [] = sym (add-neg o)
  both_sum x [] (f ∷ fs) =
      ap (add (value_at x (opposite f))) (both_sum x [] fs)
      ∙ solve R (f.numerator ∷ inverse (sub R x f.symbol) ∷ sum x fs ∷ []) (⊖ v0 ⊗ v1 ⊕ (nil ⊕ ⊖ v2)) (nil ⊕ ⊖ (v0 ⊗ v1 ⊕ v2)) tt
  both_sum x (e ∷ es) fs = ap (add (value_at x e)) (both_sum x es fs) ∙ sym (add_assoc (value_at x e) (sum x es) (neg (sum x fs)))

  both_total : (a : C) (es fs : List (Term C)) → total a (both es fs) ≡ sub R (total a es) (total a fs)
  unfolding both total opposite
  both_total a [] [] = sym (add-neg o)
  both_total a [] (f ∷ fs) = go (K.discrete f.symbol a) (both_total a [] fs)
    where
      go : (d : Dec (f.symbol ≡ a)) → total a (both [] fs) ≡ sub R o (total a fs)
          → add (choose d (neg f.numerator) o) (total a (both [] fs)) ≡ sub R o (add (choose d f.numerator o) (total a fs))
      go (yes p) h = ap (add (neg f.numerator)) h ∙ solve R (f.numerator ∷ total a fs ∷ []) (⊖ v0 ⊕ (nil ⊕ ⊖ v1)) (nil ⊕ ⊖ (v0 ⊕ v1)) tt
      go (no n) h = ap (add o) h ∙ solve R (total a fs ∷ []) (nil ⊕ (nil ⊕ ⊖ v0)) (nil ⊕ ⊖ (nil ⊕ v0)) tt
  both_total a (e ∷ es) fs =
      ap (add (choose (K.discrete e.symbol a) e.numerator o)) (both_total a es fs)
      ∙ sym (add_assoc (choose (K.discrete e.symbol a) e.numerator o) (total a es) (neg (total a fs)))

  both_defined : (x : C) (es fs : List (Term C)) → Defined x es → Defined x fs → Defined x (both es fs)
  unfolding both opposite
  both_defined x es fs h k =
      All-append (λ w. sub R x w.symbol ≢ o) es (map opposite fs) h
      (All-map (λ w. sub R x w.symbol ≢ o) (λ w. sub R x w.symbol ≢ o) opposite (λ w q. q) fs k)

  both_zeros : (es fs : List (Term C)) (xs : List C) → All (λ x. Defined x es × Defined x fs × (sum x es ≡ sum x fs)) xs
      → All (λ x. Defined x (both es fs) × (sum x (both es fs) ≡ o)) xs
  both_zeros es fs [] z = tt
  both_zeros es fs (x ∷ xs) z = (
    (
      both_defined x es fs z.0.0 z.0.1,
      both_sum x es fs ∙ ap (λ y. sub R y (sum x fs)) z.0.2 ∙ add-neg (sum x fs),
    ),
    both_zeros es fs xs z.1,
  )

  pub lookup_bound : (es fs : List (Term C)) (e : C) → total e es ≢ total e fs → (xs : List C) → Distinct xs
      → All (λ x. Defined x es × Defined x fs × (sum x es ≡ sum x fs)) xs → length xs < length es + length fs
  lookup_bound es fs e ne xs d z =
      let h = sum_bound (both es fs) e (λ t. ne (eq_of_sub R (total e es) (total e fs) (sym (both_total e es fs) ∙ t))) xs d (both_zeros es fs xs z) in
      omega (arith, h, both_length es fs)
