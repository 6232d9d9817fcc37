-- Over a field in which X³ - X + 1 has no root the triples are a field: division with remainder lowers the degree.
use mathlib.Core.Path.{◌≡◌, refl, ap, ap₂, sym, ◌∙◌, subst}
use mathlib.Core.List.{[], ◌∷◌}
use mathlib.Core.Logic.{◌≢◌}
use Rattle.algebra.specs.Ring.{CommRing, Field}
use Rattle.algebra.specs.Element.{Triple}
use Rattle.algebra.proofs.RingLaws.{one-mul}
use Rattle.algebra.proofs.Solver.{Expr, nil, one, ◌⊕◌, ◌⊗◌, ⊖◌, solve, v0, v1, v2, v3}
use Rattle.algebra.proofs.Cubic.{triple_path, discrete3, ops, exprs, mul3, constant, cubic_at, solve3, mul3_assoc, Cubic}

abbrev triple : {A : Type 0} → A → A → A → Triple A
triple a b c = record { x0 = a; x1 = b; x2 = c }

module _ (R : CommRing) (K : Field R) (no_root : (x : R.Carrier) → cubic_at (ops R) x ≢ R.zero) where
  open R use {Carrier as C, zero as o, one as i, add, mul, neg, mul-one, mul_assoc}

  abbrev ◌·◌ : Triple C → Triple C → Triple C
  a · b = mul3 (ops R) a b

  infixl 7 ◌·◌
  Invertible : Triple C → Type 0
  Invertible a = (b : Triple C) × (a · b ≡ constant (ops R) i)

  inverse_constant : (c : C) → c ≢ o → Invertible (triple c o o)
  unfolding Invertible
  inverse_constant c ne =
      let v = K.inverse c ne in (
        triple v.0 o o,
        solve3 R (c ∷ v.0 ∷ []) (mul3 exprs (triple v0 nil nil) (triple v1 nil nil)) (constant exprs (v0 ⊗ v1)) (tt, tt, tt)
            ∙ ap (constant (ops R)) v.1,
      )

  -- c (X - r), with c d = 1 and f(r) e = 1
  abbrev linear : Triple Expr
  linear = triple (v0 ⊗ ⊖ v1) v0 nil

  abbrev linear_inverse : Triple Expr
  linear_inverse = triple ((⊖ (v2 ⊗ v3)) ⊗ (v1 ⊗ v1 ⊕ ⊖ one)) ((⊖ (v2 ⊗ v3)) ⊗ v1) (⊖ (v2 ⊗ v3))

  inverse_monic : (c r d e : C) → mul c d ≡ i → mul (cubic_at (ops R) r) e ≡ i → Invertible (triple (mul c (neg r)) c o)
  unfolding Invertible
  inverse_monic c r d e h k = (
    triple (mul (neg (mul d e)) (add (mul r r) (neg i))) (mul (neg (mul d e)) r) (neg (mul d e)),
    solve3 R (c ∷ r ∷ d ∷ e ∷ []) (mul3 exprs linear linear_inverse) (constant exprs ((v0 ⊗ v2) ⊗ (cubic_at exprs v1 ⊗ v3))) (tt, tt, tt)
        ∙ ap (constant (ops R)) (ap₂ mul h k ∙ mul-one i),
  )

  scaled : (c d x : C) → mul c d ≡ i → mul c (mul d x) ≡ x
  scaled c d x h = sym (mul_assoc c d x) ∙ ap (λ y. mul y x) h ∙ one-mul R x

  inverse_linear : (a c : C) → c ≢ o → Invertible (triple a c o)
  inverse_linear a c ne =
      let v = K.inverse c ne in
      let r : C = neg (mul v.0 a) in
      let w = K.inverse (cubic_at (ops R) r) (no_root r) in
      subst (λ x. Invertible (triple x c o))
      (solve R (c ∷ v.0 ∷ a ∷ []) (v0 ⊗ ⊖ (⊖ (v1 ⊗ v2))) (v0 ⊗ (v1 ⊗ v2)) tt ∙ scaled c v.0 a v.1)
      (inverse_monic c r v.0 w.0 v.1 w.1)

  inverse_low : (a c : C) → triple a c o ≢ triple o o o → Invertible (triple a c o)
  inverse_low a c ne = go (K.discrete c o) (K.discrete a o)
    where
      go : Dec (c ≡ o) → Dec (a ≡ o) → Invertible (triple a c o)
      go (no f) d = inverse_linear a c f
      go (yes e) (yes z) = absurd (ne (triple_path z e refl))
      go (yes e) (no f) = subst (λ x. Invertible (triple a x o)) (sym e) (inverse_constant a f)

  -- c (X² + u X + v) times d (u - X), with c d = 1, has degree at most 1
  abbrev quadratic : Triple Expr
  quadratic = triple (v0 ⊗ v2) (v0 ⊗ v1) v0

  abbrev factor : Triple Expr
  factor = triple (v3 ⊗ v1) (⊖ v3) nil

  remainder_nonzero : (u v : C) → triple (add i (mul u v)) (add (mul u u) (neg (add v i))) o ≢ triple o o o
  remainder_nonzero u v e =
      no_root u
      (solve R (u ∷ v ∷ []) (cubic_at exprs v0) ((one ⊕ v0 ⊗ v1) ⊕ (v0 ⊗ v0 ⊕ ⊖ (v1 ⊕ one)) ⊗ v0) tt
      ∙ ap₂ (λ x y. add x (mul y u)) (ap (λ t. t.x0) e) (ap (λ t. t.x1) e)
      ∙ solve R (u ∷ []) (nil ⊕ nil ⊗ v0) nil tt)

  inverse_quadratic : (c u v d : C) → mul c d ≡ i → Invertible (triple (mul c v) (mul c u) c)
  unfolding Invertible
  inverse_quadratic c u v d h =
      let s : C = add i (mul u v) in
      let t : C = add (mul u u) (neg (add v i)) in
      let w : (b : Triple C) × (triple s t o · b ≡ constant (ops R) i) = inverse_low s t (remainder_nonzero u v) in (
        triple (mul d u) (neg d) o · w.0,
        sym (mul3_assoc R (triple (mul c v) (mul c u) c) (triple (mul d u) (neg d) o) w.0)
            ∙ ap (λ x. x · w.0)
            (solve3 R (c ∷ u ∷ v ∷ d ∷ []) (mul3 exprs quadratic factor)
            (triple ((v0 ⊗ v3) ⊗ (one ⊕ v1 ⊗ v2)) ((v0 ⊗ v3) ⊗ (v1 ⊗ v1 ⊕ ⊖ (v2 ⊕ one))) nil) (tt, tt, tt)
            ∙ triple_path (ap (λ x. mul x s) h ∙ one-mul R s) (ap (λ x. mul x t) h ∙ one-mul R t) refl)
            ∙ w.1,
      )

  inverse_high : (a b c : C) → c ≢ o → Invertible (triple a b c)
  inverse_high a b c ne =
      let v = K.inverse c ne in
      subst (λ x. Invertible (triple x b c)) (scaled c v.0 a v.1)
      (subst (λ x. Invertible (triple (mul c (mul v.0 a)) x c)) (scaled c v.0 b v.1)
      (inverse_quadratic c (mul v.0 b) (mul v.0 a) v.0 v.1))

  invertible : (a : Triple C) → a ≢ triple o o o → Invertible a
  invertible a ne = go (K.discrete a.x2 o)
    where
      go : Dec (a.x2 ≡ o) → Invertible a
      go (no f) = inverse_high a.x0 a.x1 a.x2 f
      go (yes e) =
          subst (λ x. Invertible (triple a.x0 a.x1 x)) (sym e)
          (inverse_low a.x0 a.x1 (λ z. ne (triple_path (ap (λ t. t.x0) z) (ap (λ t. t.x1) z) e)))

  pub Cubic-field : Field (Cubic R)
  unfolding Cubic Invertible
  Cubic-field =
      record {
        one≢zero = λ e. K.one≢zero (ap (λ t. t.x0) e);
        discrete = discrete3 K.discrete;
        inverse = invertible;
      }
