-- Laws of a field, and the residues modulo a prime n as one: a is inverted through n % a, which is smaller.
use mathlib.Core.Path.{◌≡◌, refl, ap, ap₂, sym, ◌∙◌, subst}
use mathlib.Core.Logic.{◌≢◌}
use mathlib.Core.List.{[], ◌∷◌}
use Prim.Native.Nat.{ℕ, zero, suc, ◌*◌, ◌/◌, ◌%◌, ◌≤◌, ◌<◌}
use native.Mathlib.Nat.{mod-eq_of_lt, dvd_of_mod-eq-zero, mod-lt, div-add-mod, zero-mod, le_refl}
use native.Mathlib.Decide.{ℕ_discrete}
use native.Mathlib.Omega.{arith}
use Rattle.algebra.specs.Modulus.{Prime}
use Rattle.algebra.specs.Ring.{CommRing, Field}
use Rattle.algebra.proofs.RingLaws.{mul_zero, one-mul, zero-mul}
use Rattle.algebra.proofs.Solver.{nil, one, ◌⊕◌, ◌⊗◌, ⊖◌, solve, v0, v1, v2, v3}
use Rattle.algebra.proofs.Residues.{Residues, residue, rep, rep_lt, residue_rep, residue_add, residue_mul, residue_one, residue_modulus, residue_zero, mod-of_residue, Residues-discrete}

module _ (R : CommRing) where
  open R use {Carrier as C, zero as o, one as i, mul}

  unit_cancel : (a b c : C) → mul a b ≡ i → mul a c ≡ o → c ≡ o
  unit_cancel a b c e z =
      sym (one-mul R c) ∙ ap (λ x. mul x c) (sym e)
      ∙ solve R (a ∷ b ∷ c ∷ []) ((v0 ⊗ v1) ⊗ v2) (v1 ⊗ (v0 ⊗ v2)) tt ∙ ap (mul b) z ∙ mul_zero R b

  pub field_cancel : Field R → (a c : C) → a ≢ o → mul a c ≡ o → c ≡ o
  field_cancel K a c ne z = let v = K.inverse a ne in unit_cancel a v.0 c v.1 z

  pub unit_nonzero : Field R → (a b : C) → mul a b ≡ i → a ≢ o
  unit_nonzero K a b e z = K.one≢zero (sym e ∙ ap (λ x. mul x b) z ∙ zero-mul R b)

  pub unit_unique : (a b c : C) → mul a b ≡ i → mul a c ≡ i → b ≡ c
  unit_unique a b c e f =
      sym (one-mul R b) ∙ ap (λ x. mul x b) (sym f)
      ∙ solve R (a ∷ b ∷ c ∷ []) ((v0 ⊗ v2) ⊗ v1) ((v0 ⊗ v1) ⊗ v2) tt ∙ ap (λ x. mul x c) e ∙ one-mul R c

module _ (n : ℕ) (pos : 0 < n) (prime : Prime n) where
  abbrev F : CommRing
  F = Residues n pos

  open F use {Carrier as C, zero as o, one as i, add, mul, neg, mul-one}

  step : (a q r y : C) → add (mul a q) r ≡ o → mul r y ≡ i → mul a (neg (mul q y)) ≡ i
  step a q r y h k =
      solve F (a ∷ q ∷ r ∷ y ∷ []) (v0 ⊗ ⊖ (v1 ⊗ v3)) ((v2 ⊗ v3) ⊕ ⊖ ((v0 ⊗ v1 ⊕ v2) ⊗ v3)) tt
      ∙ ap₂ (λ x z. add x (neg (mul z y))) k h
      ∙ solve F (y ∷ []) (one ⊕ ⊖ (nil ⊗ v0)) one tt

  residue_inverse : (f a : ℕ) → a ≤ f → 0 < a → a < n → (y : C) × (mul (residue n pos a) y ≡ i)
  residue_inverse zero a h lo hi = absurd (omega arith)
  residue_inverse (suc f) a h lo hi = go (ℕ_discrete a 1) (residue_inverse f (n % a))
    where
      go : Dec (a ≡ 1) → (n % a ≤ f → 0 < n % a → n % a < n → (y : C) × (mul (residue n pos (n % a)) y ≡ i))
          → (y : C) × (mul (residue n pos a) y ≡ i)
      go (yes e) rec = (i, ap (λ (x : ℕ). mul (residue n pos x) i) e ∙ ap (λ x. mul x i) (residue_one n pos) ∙ mul-one i)
      go (no ne) rec =
          let lt : n % a < a = mod-lt n lo in
          let nz : n % a ≢ 0 = λ z. absurd (omega (arith, prime.only a (dvd_of_mod-eq-zero a z) ne)) in
          let v = rec (omega arith) (omega arith) (omega arith) in (
            neg (mul (residue n pos (n / a)) v.0),
            step (residue n pos a) (residue n pos (n / a)) (residue n pos (n % a)) v.0
                (ap (λ x. add x (residue n pos (n % a))) (sym (residue_mul n pos a (n / a))) ∙ sym (residue_add n pos (a * (n / a)) (n % a))
                ∙ ap (residue n pos) (div-add-mod n a) ∙ residue_modulus n pos)
                v.1,
          )

  rep_nonzero : (a : C) → a ≢ o → 0 < rep n pos a
  rep_nonzero a ne = go (rep n pos a) refl
    where
      go : (k : ℕ) → rep n pos a ≡ k → 0 < k
      go zero e = absurd (ne (sym (residue_rep n pos a) ∙ ap (residue n pos) e ∙ residue_zero n pos))
      go (suc k) e = omega arith

  pub residue_nonzero : (a : ℕ) → 0 < a → a < n → residue n pos a ≢ o
  residue_nonzero a lo hi e =
      absurd (omega (arith, lo, sym (mod-eq_of_lt hi) ∙ mod-of_residue n pos a 0 (e ∙ sym (residue_zero n pos)) ∙ zero-mod n))

  pub Residues-field : Field (Residues n pos)
  Residues-field =
      record {
        one≢zero = λ e. residue_nonzero 1 (le_refl 1) prime.big (residue_one n pos ∙ e);
        discrete = Residues-discrete n pos;
        inverse = λ a ne.
            subst (λ x. (b : C) × (mul x b ≡ i)) (residue_rep n pos a)
            (residue_inverse (rep n pos a) (rep n pos a) (le_refl _) (rep_nonzero a ne) (rep_lt n pos a));
      }
