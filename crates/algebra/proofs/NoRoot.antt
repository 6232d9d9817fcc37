-- X³ - X + 1 has no root modulo p: X ^ p - X has an inverse modulo it, and is zero at a root by Fermat's little theorem.
use mathlib.Core.Path.{◌≡◌, refl, ap, ap₂, sym, ◌∙◌}
use mathlib.Core.List.{[], ◌∷◌}
use mathlib.Core.Logic.{◌≢◌}
use Prim.Native.Nat.{ℕ}
use lib.Dec.{lit<}
use Rattle.algebra.specs.Modulus as base
use Rattle.algebra.specs.Modulus.{p}
use Rattle.algebra.specs.Element.{Triple, X, one, product, difference, inverse}
use Rattle.algebra.proofs.RingLaws.{zero-mul}
use Rattle.algebra.proofs.Solver as solver
use Rattle.algebra.proofs.Solver.{nil, ◌⊕◌, ◌⊗◌, ⊖◌, solve, v0, v1, v2, v3, v4, v5, v6}
use Rattle.algebra.proofs.Powers.{pow, squaring, squaring_pow}
use Rattle.algebra.proofs.Cubic.{ops, exprs, value_at, value_at_mul, cubic_at, Cubic}
use Rattle.algebra.proofs.Base.{BaseRing, base_field, base_fermat, el, el-laws}
use Rattle.algebra.proofs.Elements.{ElementRing, into, into-product, into-difference}

-- X ^ p - X
gap : Triple ℕ
gap = difference (squaring product one 64 X p) X

gap_invertible : product gap (inverse gap) ≡ one
unfolding gap squaring product difference inverse base.inverse
gap_invertible = refl

open BaseRing use {Carrier as C, zero as o, one as i, add, mul, neg, add-neg}

module _ (x : C) (root : cubic_at (ops BaseRing) x ≡ o) where
  at : Triple ℕ → C
  unfolding ElementRing Cubic
  at a = value_at (ops BaseRing) x (into a)

  at_one : at one ≡ i
  unfolding at into
  at_one = simp el-laws (solve BaseRing (x ∷ []) (solver.one ⊕ v0 ⊗ (nil ⊕ v0 ⊗ nil)) solver.one tt)

  at_x : at X ≡ x
  unfolding at into
  at_x = simp el-laws (solve BaseRing (x ∷ []) (nil ⊕ v0 ⊗ (solver.one ⊕ v0 ⊗ nil)) v0 tt)

  at_product : (a b : Triple ℕ) → at (product a b) ≡ mul (at a) (at b)
  unfolding at
  at_product a b = ap (value_at (ops BaseRing) x) (into-product a b) ∙ value_at_mul BaseRing x root (into a) (into b)

  at_difference : (a b : Triple ℕ) → at (difference a b) ≡ add (at a) (neg (at b))
  unfolding at into
  at_difference a b =
      ap (value_at (ops BaseRing) x) (into-difference a b)
      ∙ solve BaseRing (el a.x0 ∷ el a.x1 ∷ el a.x2 ∷ el b.x0 ∷ el b.x1 ∷ el b.x2 ∷ x ∷ [])
      (value_at exprs v6 (record { x0 = v0 ⊕ ⊖ v3; x1 = v1 ⊕ ⊖ v4; x2 = v2 ⊕ ⊖ v5 }))
      (value_at exprs v6 (record { x0 = v0; x1 = v1; x2 = v2 }) ⊕ ⊖ (value_at exprs v6 (record { x0 = v3; x1 = v4; x2 = v5 }))) tt

  at_gap : at gap ≡ o
  unfolding gap
  at_gap =
      at_difference (squaring product one 64 X p) X
      ∙ ap₂ (λ y z. add y (neg z))
      (squaring_pow BaseRing product one at at_one at_product 64 X p (lit< tt) ∙ ap (λ y. pow BaseRing y p) at_x ∙ base_fermat x) at_x
      ∙ add-neg x

  one_zero : i ≡ o
  one_zero =
      sym at_one ∙ ap at (sym gap_invertible) ∙ at_product gap (inverse gap)
      ∙ ap (λ y. mul y (at (inverse gap))) at_gap ∙ zero-mul BaseRing (at (inverse gap))

pub base_no_root : (x : BaseRing.Carrier) → cubic_at (ops BaseRing) x ≢ BaseRing.zero
base_no_root x root = base_field.one≢zero (one_zero x root)
