-- The statements of specs/Theorems.antt, proved.
use Rattle.std.proofs.Common.{◌≡◌, ℕ, zero, suc, ◌*◌, ◌%◌, ◌<◌, Bool, true, false, eqb, ltb, ◌≢◌, [], ◌∷◌, sym, refl, ap, ◌∙◌, ap₂, mod-lt, mul_assoc, arith, lt-ltb, ne_eqb, eqb-true}
use Rattle.algebra.specs.Modulus.{p, plus, times, inverse}
use Rattle.algebra.proofs.Base.{p_positive, BaseRing, el, el-injective, el-times, el-laws, el-nonzero, el-inverse, base_inverse_below, times_below}
use Rattle.algebra.proofs.FieldLaws.{unit_unique}
use Rattle.algebra.proofs.Residues.{mod-mul_mod}
use Rattle.algebra.proofs.Solver.{◌⊕◌, ◌⊗◌, solve, v0, v1, v2}
use Rattle.refusal.specs.Tests.{◌when◌, ◌unless◌, first_or}
use Rattle.refusal.specs.declared.Refusal.TheVariants.{WordNotBelowP, ZeroDenominator}
use Rattle.field_base.specs.Answers.{words_tests, inverse_tests, base_inverse}
use Rattle.field_montgomery.specs.Form.{RADIX, to_montgomery, from_montgomery, montgomery_product, montgomery_inverse}
use Rattle.field_montgomery.specs.Answers.{montgomery_inverted}
use Rattle.field_montgomery.specs.Theorems.{Conversions, through, PlainSeenThrough}
use Rattle.field_montgomery.proofs.Conversion.{undone, from_mod}
use Rattle.std.specs.Prelude.{Result, Ok, Err}
use Rattle.refusal.specs.declared.Refusal.{Refusal}

pub conversions : Conversions
unfolding to_montgomery from_montgomery
conversions =
    record {
      to_below = λ v. mod-lt _ p_positive;
      from_below = λ w. mod-lt _ p_positive;
      from_to = λ v. undone v _ _ refl;
      to_from = λ w. undone w _ _ refl;
      one = refl;
    }

-- sums and products of words in the form
to_sum : (a b : ℕ) → plus (to_montgomery a) (to_montgomery b) ≡ to_montgomery (plus a b)
unfolding to_montgomery
to_sum a b =
    el-injective _ _ (mod-lt _ p_positive) (mod-lt _ p_positive)
    (simp el-laws (solve BaseRing (el a ∷ el b ∷ el RADIX ∷ []) (v0 ⊗ v2 ⊕ v1 ⊗ v2) ((v0 ⊕ v1) ⊗ v2) tt))

to_times : (a b : ℕ) → times (to_montgomery a) (to_montgomery b) ≡ to_montgomery (to_montgomery (times a b))
unfolding to_montgomery
to_times a b =
    el-injective _ _ (mod-lt _ p_positive) (mod-lt _ p_positive)
    (simp el-laws (solve BaseRing (el a ∷ el b ∷ el RADIX ∷ []) ((v0 ⊗ v2) ⊗ (v1 ⊗ v2)) (((v0 ⊗ v1) ⊗ v2) ⊗ v2) tt))

to_product : (a b : ℕ) → montgomery_product (to_montgomery a) (to_montgomery b) ≡ to_montgomery (times a b)
unfolding montgomery_product
to_product a b = sym (from_mod _) ∙ ap from_montgomery (to_times a b) ∙ conversions.from_to _ (conversions.to_below _)

to_nonzero : (a : ℕ) → 0 < a → a < p → to_montgomery a ≢ 0
unfolding from_montgomery
to_nonzero a lo hi e = let z : a ≡ 0 = sym (conversions.from_to a hi) ∙ ap from_montgomery e in omega arith

-- the inverse of a's form is a's inverse divided by 2^64
to_inverse : (a : ℕ) → 0 < a → a < p → to_montgomery (inverse (to_montgomery a)) ≡ inverse a
unfolding to_montgomery
to_inverse a lo hi =
    let i = inverse (to_montgomery a) in
    let nonzero : 0 < to_montgomery a = omega (arith, to_nonzero a lo hi) in
    el-injective _ _ (mod-lt _ p_positive) (base_inverse_below a)
    (unit_unique BaseRing (el a) _ _
    (ap (BaseRing.mul (el a)) (el-times i RADIX)
    ∙ solve BaseRing (el a ∷ el i ∷ el RADIX ∷ []) (v0 ⊗ (v1 ⊗ v2)) ((v0 ⊗ v2) ⊗ v1) tt
    ∙ ap (λ x. BaseRing.mul x (el i)) (sym (el-times a RADIX))
    ∙ el-inverse (to_montgomery a) (el-nonzero (to_montgomery a) nonzero (conversions.to_below a)))
    (el-inverse a (el-nonzero a lo hi)))

through_inverse : (a : ℕ) → 0 < a → a < p → montgomery_inverse (to_montgomery a) ≡ to_montgomery (inverse a)
unfolding montgomery_inverse to_montgomery
through_inverse a lo hi =
    ap (λ (n : ℕ). n % p) (sym (mul_assoc (inverse (to_montgomery a)) RADIX RADIX)) ∙ sym (mod-mul_mod (inverse (to_montgomery a) * RADIX) RADIX p)
    ∙ ap to_montgomery (to_inverse a lo hi)

-- an operation on two words, through both conversions
both : {a b : ℕ} (x : Result ℕ Refusal) → a < p → b < p → first_or Err (words_tests a b) x ≡ x
both {a} {b} x h k = rw (lt-ltb a p h, lt-ltb b p k)

module _ (f g : ℕ → ℕ → ℕ) (e : (a b : ℕ) → f (to_montgomery a) (to_montgomery b) ≡ to_montgomery (g a b)) (below : (a b : ℕ) → g a b < p) where
  to_both : (a b : ℕ) → a < p → b < p
      → first_or Err (words_tests (to_montgomery a) (to_montgomery b)) (Ok (f (to_montgomery a) (to_montgomery b)))
      ≡ through to_montgomery (first_or Err (words_tests a b) (Ok (g a b)))
  to_both a b h k = both _ (conversions.to_below a) (conversions.to_below b) ∙ ap Ok (e a b) ∙ sym (ap (through to_montgomery) (both _ h k))

  from_both : (a b : ℕ) → a < p → b < p
      → through from_montgomery (first_or Err (words_tests a b) (Ok (f a b)))
      ≡ first_or Err (words_tests (from_montgomery a) (from_montgomery b)) (Ok (g (from_montgomery a) (from_montgomery b)))
  from_both a b h k =
      ap (through from_montgomery) (both _ h k)
      ∙ ap Ok
      (ap₂ (λ (x y : ℕ). from_montgomery (f x y)) (sym (conversions.to_from a h)) (sym (conversions.to_from b k))
      ∙ ap from_montgomery (e (from_montgomery a) (from_montgomery b)) ∙ conversions.from_to _ (below _ _))
      ∙ sym (both _ (conversions.from_below a) (conversions.from_below b))

-- inverses
inverted : {a : ℕ} (w : ℕ) → a ≢ 0 → a < p → first_or Err (inverse_tests a) (Ok w) ≡ Ok w
inverted {a} w ne h = rw (lt-ltb a p h, ne_eqb a 0 ne)

inverse_through : (a : ℕ) → a < p → montgomery_inverted (to_montgomery a) ≡ through to_montgomery (base_inverse a)
unfolding to_montgomery
inverse_through zero h = refl
inverse_through (suc a) h =
    inverted _ (to_nonzero (suc a) (omega arith) h) (conversions.to_below (suc a)) ∙ ap Ok (through_inverse (suc a) (omega arith) h)
    ∙ sym (ap (through to_montgomery) (inverted _ (omega arith) h))

inverse_back : (a : ℕ) → a < p → through from_montgomery (through to_montgomery (base_inverse a)) ≡ base_inverse a
inverse_back zero h = refl
inverse_back (suc a) h =
    let e = inverted {a = suc a} (inverse (suc a)) (omega arith) h in
    ap (λ x. through from_montgomery (through to_montgomery x)) e ∙ ap Ok (conversions.from_to _ (base_inverse_below (suc a))) ∙ sym e

refused : (below none : Bool) (w : ℕ) → first_or Err ((WordNotBelowP unless below) ∷ (ZeroDenominator when none) ∷ []) (Ok w) ≡ Err ZeroDenominator → none ≡ true
refused true true w e = refl
refused true false w e = cc
refused false none w e = cc

pub plain_seen_through : PlainSeenThrough
plain_seen_through =
    record {
      add = to_both plus plus to_sum (λ a b. mod-lt _ p_positive);
      mul = to_both montgomery_product times to_product times_below;
      inverse = inverse_through;
      from_add = from_both plus plus to_sum (λ a b. mod-lt _ p_positive);
      from_mul = from_both montgomery_product times to_product times_below;
      from_inverse = λ a h.
          ap (λ (w : ℕ). through from_montgomery (montgomery_inverted w)) (sym (conversions.to_from a h))
          ∙ ap (through from_montgomery) (inverse_through (from_montgomery a) (conversions.from_below a))
          ∙ inverse_back (from_montgomery a) (conversions.from_below a);
      zero_alone = λ a. (λ e. eqb-true a 0 (refused (ltb a p) (eqb a 0) _ e), λ e. ap montgomery_inverted e);
    }
