-- Fermat's little theorem by the binomial theorem: (1 + x) ^ p = 1 + x ^ p modulo a prime p.
use mathlib.Core.Path.{◌≡◌, refl, ap, ap₂, sym, ◌∙◌}
use mathlib.Core.Logic.{◌≢◌}
use mathlib.Core.List.{[], ◌∷◌}
use Prim.Native.Nat.{ℕ, zero, suc, ◌+◌, ◌*◌, ◌<◌}
use native.Mathlib.Nat.{zero-mod, le_refl, mul-mod_right}
use native.Mathlib.Omega.{arith}
use native.Mathlib.Numerals.{one-add}
use Rattle.algebra.specs.Modulus.{Prime}
use Rattle.algebra.specs.Ring.{CommRing}
use Rattle.algebra.proofs.RingLaws.{zero-mul, one-mul, zero-add, eq_of_sub, nat, nat_add, nat_one}
use Rattle.algebra.proofs.Solver.{lit, nil, one, ◌⊕◌, ◌⊗◌, ⊖◌, solve, v0, v1, v2, v3}
use Rattle.algebra.proofs.Residues.{Residues, residue, rep, residue_rep, residue_eq, residue_add, residue_mul, residue_one, residue_zero, nat_residue}
use Rattle.algebra.proofs.Powers.{pow}
use Rattle.algebra.proofs.FieldLaws.{field_cancel, Residues-field, residue_nonzero}

binom : ℕ → ℕ → ℕ
binom n zero = 1
binom zero (suc k) = 0
binom (suc n) (suc k) = binom n k + binom n (suc k)

absorption : (n k : ℕ) → suc k * binom (suc n) (suc k) ≡ suc n * binom n k
unfolding binom
absorption zero zero = refl
absorption zero (suc k) = omega arith
absorption (suc n) zero = omega (arith, absorption n zero)
absorption (suc n) (suc k) = omega (arith, absorption n k, absorption n (suc k))

binom_above : (n k : ℕ) → n < k → binom n k ≡ 0
unfolding binom
binom_above n zero h = absurd (omega arith)
binom_above zero (suc k) h = refl
binom_above (suc n) (suc k) h = ap₂ ◌+◌ (binom_above n k (omega arith)) (binom_above n (suc k) (omega arith))

binom_self : (n : ℕ) → binom n n ≡ 1
unfolding binom
binom_self zero = refl
binom_self (suc n) = ap₂ ◌+◌ (binom_self n) (binom_above n (suc n) (le_refl (suc n)))

module _ (R : CommRing) where
  open R use {Carrier as C, zero as o, one as i, add, mul, add_assoc, add-zero, add_comm, distrib}

  sum_to : ℕ → (ℕ → C) → C
  sum_to zero f = o
  sum_to (suc n) f = add (f 0) (sum_to n (λ k. f (suc k)))

  sum-last : (n : ℕ) (f : ℕ → C) → sum_to (suc n) f ≡ add (sum_to n f) (f n)
  unfolding sum_to
  sum-last zero f = add_comm (f 0) o
  sum-last (suc n) f = ap (add (f 0)) (sum-last n (λ k. f (suc k))) ∙ sym (add_assoc (f 0) (sum_to n (λ k. f (suc k))) (f (suc n)))

  sum-add : (n : ℕ) (f g : ℕ → C) → sum_to n (λ k. add (f k) (g k)) ≡ add (sum_to n f) (sum_to n g)
  unfolding sum_to
  sum-add zero f g = sym (add-zero o)
  sum-add (suc n) f g =
      ap (add (add (f 0) (g 0))) (sum-add n (λ k. f (suc k)) (λ k. g (suc k)))
      ∙ solve R (f 0 ∷ g 0 ∷ sum_to n (λ k. f (suc k)) ∷ sum_to n (λ k. g (suc k)) ∷ []) ((v0 ⊕ v1) ⊕ (v2 ⊕ v3)) ((v0 ⊕ v2) ⊕ (v1 ⊕ v3)) tt

  sum-ext : (n : ℕ) (f g : ℕ → C) → ((k : ℕ) → k < n → f k ≡ g k) → sum_to n f ≡ sum_to n g
  unfolding sum_to
  sum-ext zero f g h = refl
  sum-ext (suc n) f g h = ap₂ add (h 0 (omega arith)) (sum-ext n (λ k. f (suc k)) (λ k. g (suc k)) (λ k l. h (suc k) (omega arith)))

  sum_zero : (n : ℕ) (f : ℕ → C) → ((k : ℕ) → k < n → f k ≡ o) → sum_to n f ≡ o
  unfolding sum_to
  sum_zero zero f h = refl
  sum_zero (suc n) f h = ap₂ add (h 0 (omega arith)) (sum_zero n (λ k. f (suc k)) (λ k l. h (suc k) (omega arith))) ∙ add-zero o

  -- the sum of binom n k times f k, by its recurrence
  umbra : ℕ → (ℕ → C) → C
  umbra zero f = f 0
  umbra (suc n) f = add (umbra n f) (umbra n (λ k. f (suc k)))

  umbra_mul : (n : ℕ) (x : C) (f : ℕ → C) → umbra n (λ k. mul x (f k)) ≡ mul x (umbra n f)
  unfolding umbra
  umbra_mul zero x f = refl
  umbra_mul (suc n) x f = ap₂ add (umbra_mul n x f) (umbra_mul n x (λ k. f (suc k))) ∙ sym (distrib x (umbra n f) (umbra n (λ k. f (suc k))))

  umbra_pow : (n : ℕ) (x : C) → umbra n (pow R x) ≡ pow R (add i x) n
  unfolding umbra pow
  umbra_pow zero x = refl
  umbra_pow (suc n) x =
      ap₂ add (umbra_pow n x) (umbra_mul n x (pow R x) ∙ ap (mul x) (umbra_pow n x))
      ∙ solve R (x ∷ pow R (add i x) n ∷ []) (v1 ⊕ v0 ⊗ v1) ((one ⊕ v0) ⊗ v1) tt

  term : ℕ → (ℕ → C) → ℕ → C
  term n f k = mul (nat R (binom n k)) (f k)

  term_suc : (n k : ℕ) (f : ℕ → C) → term (suc n) f (suc k) ≡ add (term n (λ j. f (suc j)) k) (term n f (suc k))
  unfolding term binom
  term_suc n k f =
      ap (λ x. mul x (f (suc k))) (nat_add R (binom n k) (binom n (suc k)))
      ∙ solve R (nat R (binom n k) ∷ nat R (binom n (suc k)) ∷ f (suc k) ∷ []) ((v0 ⊕ v1) ⊗ v2) (v0 ⊗ v2 ⊕ v1 ⊗ v2) tt

  umbra_sum : (n : ℕ) (f : ℕ → C) → umbra n f ≡ sum_to (suc n) (term n f)
  unfolding umbra sum_to term binom nat
  umbra_sum zero f = solve R (f 0 ∷ []) v0 (lit 1 ⊗ v0 ⊕ nil) tt
  umbra_sum (suc n) f =
      ap₂ add (umbra_sum n f ∙ sym (add-zero (sum_to (suc n) (term n f)))) (umbra_sum n (λ k. f (suc k)))
      ∙ ap (λ x. add (add (sum_to (suc n) (term n f)) x) (sum_to (suc n) (term n (λ k. f (suc k))))) (sym last)
      ∙ ap (λ x. add x (sum_to (suc n) (term n (λ k. f (suc k))))) (sym (sum-last (suc n) (term n f)))
      ∙ solve R (term n f 0 ∷ sum_to (suc n) (λ k. term n f (suc k)) ∷ sum_to (suc n) (term n (λ k. f (suc k))) ∷ []) ((v0 ⊕ v1) ⊕ v2) (v0 ⊕ (v2 ⊕ v1)) tt
      ∙ ap (add (term n f 0)) (sym (sum-add (suc n) (term n (λ k. f (suc k))) (λ k. term n f (suc k)))
      ∙ sum-ext (suc n) (λ k. add (term n (λ j. f (suc j)) k) (term n f (suc k))) (λ k. term (suc n) f (suc k)) (λ k h. sym (term_suc n k f)))
    where
      last : term n f (suc n) ≡ o
      last = ap (λ (x : ℕ). mul (nat R x) (f (suc n))) (binom_above n (suc n) (le_refl (suc n))) ∙ zero-mul R (f (suc n))

-- modulo a prime n + 1
module _ (n : ℕ) (pos : 0 < suc n) (prime : Prime (suc n)) where
  abbrev F : CommRing
  F = Residues (suc n) pos

  open F use {Carrier as C, zero as o, one as i, add, mul, neg, add-neg, mul-one}

  middle : (k : ℕ) → k < n → nat F (binom (suc n) (suc k)) ≡ o
  middle k h =
      field_cancel F (Residues-field (suc n) pos prime) (residue (suc n) pos (suc k)) (nat F (binom (suc n) (suc k)))
      (residue_nonzero (suc n) pos prime (suc k) (omega arith) (omega arith))
      (ap (mul (residue (suc n) pos (suc k))) (nat_residue (suc n) pos (binom (suc n) (suc k)))
      ∙ sym (residue_mul (suc n) pos (suc k) (binom (suc n) (suc k)))
      ∙ ap (residue (suc n) pos) (absorption n k)
      ∙ residue_eq (suc n) pos (suc n * binom n k) 0 (mul-mod_right (suc n) (binom n k) ∙ sym (zero-mod (suc n)))
      ∙ residue_zero (suc n) pos)

  frobenius : (x : C) → pow F (add i x) (suc n) ≡ add i (pow F x (suc n))
  unfolding sum_to term binom pow
  frobenius x =
      sym (umbra_pow F (suc n) x) ∙ umbra_sum F (suc n) (pow F x)
      ∙ ap₂ add first (sum-last F n (λ k. term F (suc n) (pow F x) (suc k))
      ∙ ap₂ add (sum_zero F n (λ k. term F (suc n) (pow F x) (suc k)) inner) final ∙ zero-add F (pow F x (suc n)))
    where
      first : term F (suc n) (pow F x) 0 ≡ i
      first = mul-one (nat F 1) ∙ nat_one F

      inner : (k : ℕ) → k < n → term F (suc n) (pow F x) (suc k) ≡ o
      inner k h = ap (λ y. mul y (pow F x (suc k))) (middle k h) ∙ zero-mul F (pow F x (suc k))

      final : term F (suc n) (pow F x) (suc n) ≡ pow F x (suc n)
      final = ap (λ (y : ℕ). mul (nat F y) (pow F x (suc n))) (binom_self (suc n)) ∙ ap (λ y. mul y (pow F x (suc n))) (nat_one F) ∙ one-mul F (pow F x (suc n))

  fermat_residue : (k : ℕ) → pow F (residue (suc n) pos k) (suc n) ≡ residue (suc n) pos k
  unfolding pow
  fermat_residue zero = ap (λ x. mul x (pow F (residue (suc n) pos 0) n)) (residue_zero (suc n) pos) ∙ zero-mul F _ ∙ sym (residue_zero (suc n) pos)
  fermat_residue (suc k) =
      ap (λ x. pow F x (suc n)) split ∙ frobenius (residue (suc n) pos k) ∙ ap (add i) (fermat_residue k) ∙ sym split
    where
      split : residue (suc n) pos (suc k) ≡ add i (residue (suc n) pos k)
      split = ap (residue (suc n) pos) (sym (one-add k)) ∙ residue_add (suc n) pos 1 k ∙ ap (λ x. add x (residue (suc n) pos k)) (residue_one (suc n) pos)

  pub fermat : (x : C) → pow F x (suc n) ≡ x
  fermat x = ap (λ y. pow F y (suc n)) (sym (residue_rep (suc n) pos x)) ∙ fermat_residue (rep (suc n) pos x) ∙ residue_rep (suc n) pos x

  -- the inverse as a power, for a prime k + 2
  pub fermat_inverse : (k : ℕ) → n ≡ suc k → (x : C) → x ≢ o → mul x (pow F x k) ≡ i
  unfolding pow
  fermat_inverse k e x ne =
      eq_of_sub F (mul x (pow F x k)) i
      (field_cancel F (Residues-field (suc n) pos prime) x (add (mul x (pow F x k)) (neg i)) ne
      (solve F (x ∷ pow F x k ∷ []) (v0 ⊗ (v0 ⊗ v1 ⊕ ⊖ one)) (v0 ⊗ (v0 ⊗ v1) ⊕ ⊖ v0) tt
      ∙ ap (λ y. add y (neg x)) (ap (λ (m : ℕ). pow F x (suc m)) (sym e) ∙ fermat x) ∙ add-neg x))
