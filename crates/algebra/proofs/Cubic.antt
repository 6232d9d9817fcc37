-- Triples over a commutative ring, modulo X³ - X + 1: a commutative ring again.
use mathlib.Core.Path.{◌≡◌, ap, sym, ◌∙◌}
use mathlib.Core.List.{List, [], ◌∷◌}
use lib.ListN.{length}
use Rattle.algebra.specs.Ring.{CommRing}
use Rattle.algebra.specs.Element.{Triple}
use Rattle.algebra.proofs.RingLaws.{mul_zero}
use Rattle.algebra.proofs.Solver.{Expr, nil, one, ◌⊕◌, ◌⊗◌, ⊖◌, Equal, ev, solve, v0, v1, v2, v3, v4, v5, v6, v7, v8}

pub triple_path : {A : Type 0} {a b : Triple A} → a.x0 ≡ b.x0 → a.x1 ≡ b.x1 → a.x2 ≡ b.x2 → a ≡ b
triple_path p q r = λ k. record { x0 = p k; x1 = q k; x2 = r k }

pub discrete3 : {A : Type 0} → ((a b : A) → Dec (a ≡ b)) → (a b : Triple A) → Dec (a ≡ b)
discrete3 discrete a b = go (discrete a.x0 b.x0) (discrete a.x1 b.x1) (discrete a.x2 b.x2)
  where
    go : Dec (a.x0 ≡ b.x0) → Dec (a.x1 ≡ b.x1) → Dec (a.x2 ≡ b.x2) → Dec (a ≡ b)
    go (yes p) (yes q) (yes r) = yes (triple_path p q r)
    go (no f) q r = no (λ e. f (ap (λ t. t.x0) e))
    go (yes p) (no f) r = no (λ e. f (ap (λ t. t.x1) e))
    go (yes p) (yes q) (no f) = no (λ e. f (ap (λ t. t.x2) e))

-- operations, which a ring has and the solver's expressions too
pub record Ops : Type 1 where
  pub Carrier : Type 0
  pub zero : Carrier
  pub one : Carrier
  pub add : Carrier → Carrier → Carrier
  pub mul : Carrier → Carrier → Carrier
  pub neg : Carrier → Carrier

abbrev pub exprs : Ops
exprs = record { Carrier = Expr; zero = nil; one = one; add = ◌⊕◌; mul = ◌⊗◌; neg = ⊖◌ }

abbrev pub ops : CommRing → Ops
ops R = record { Carrier = R.Carrier; zero = R.zero; one = R.one; add = R.add; mul = R.mul; neg = R.neg }

module _ (O : Ops) where
  open O use {Carrier as A, zero as o, one as i, add, mul, neg}

  abbrev pub add3 : Triple A → Triple A → Triple A
  add3 a b = record { x0 = add a.x0 b.x0; x1 = add a.x1 b.x1; x2 = add a.x2 b.x2 }

  abbrev pub neg3 : Triple A → Triple A
  neg3 a = record { x0 = neg a.x0; x1 = neg a.x1; x2 = neg a.x2 }

  abbrev pub constant : A → Triple A
  constant a = record { x0 = a; x1 = o; x2 = o }

  abbrev pub mul3 : Triple A → Triple A → Triple A
  mul3 a b =
      let d₃ = add (mul a.x1 b.x2) (mul a.x2 b.x1) in
      let d₄ = mul a.x2 b.x2 in
      record {
        x0 = add (mul a.x0 b.x0) (neg d₃);
        x1 = add (add (add (mul a.x0 b.x1) (mul a.x1 b.x0)) d₃) (neg d₄);
        x2 = add (add (add (mul a.x0 b.x2) (mul a.x1 b.x1)) (mul a.x2 b.x0)) d₄;
      }

  abbrev pub cofactor3 : Triple A → Triple A
  cofactor3 a =
      let s = add a.x0 a.x2 in
      let t = add a.x1 (neg a.x2) in
      record {
        x0 = add (mul s s) (neg (mul a.x1 t));
        x1 = add (mul a.x2 t) (neg (mul a.x1 s));
        x2 = add (mul a.x1 a.x1) (neg (mul a.x2 s));
      }

  abbrev pub norm3 : Triple A → A
  norm3 a = (mul3 a (cofactor3 a)).x0

  -- the value at x, and that of X³ - X + 1
  abbrev pub value_at : A → Triple A → A
  value_at x a = add a.x0 (mul x (add a.x1 (mul x a.x2)))

  abbrev pub cubic_at : A → A
  cubic_at x = add (add (mul x (mul x x)) (neg x)) i

abbrev va : Triple Expr
va = record { x0 = v0; x1 = v1; x2 = v2 }

abbrev vb : Triple Expr
vb = record { x0 = v3; x1 = v4; x2 = v5 }

abbrev vc : Triple Expr
vc = record { x0 = v6; x1 = v7; x2 = v8 }

module _ (R : CommRing) where
  open R use {Carrier as C, zero as o, one as i, add, mul, neg}

  abbrev pub ev3 : List C → Triple Expr → Triple C
  ev3 ρ a = record { x0 = ev R ρ a.x0; x1 = ev R ρ a.x1; x2 = ev R ρ a.x2 }

  pub solve3 : (ρ : List C) (a b : Triple Expr)
      → Equal (length ρ) a.x0 b.x0 × Equal (length ρ) a.x1 b.x1 × Equal (length ρ) a.x2 b.x2
      → ev3 ρ a ≡ ev3 ρ b
  solve3 ρ a b t =
      triple_path
      (solve R ρ a.x0 b.x0 t.0)
      (solve R ρ a.x1 b.x1 t.1)
      (solve R ρ a.x2 b.x2 t.2)

  abbrev of1 : Triple C → List C
  of1 a = a.x0 ∷ a.x1 ∷ a.x2 ∷ []

  abbrev of2 : Triple C → Triple C → List C
  of2 a b = a.x0 ∷ a.x1 ∷ a.x2 ∷ of1 b

  abbrev of3 : Triple C → Triple C → Triple C → List C
  of3 a b c = a.x0 ∷ a.x1 ∷ a.x2 ∷ of2 b c

  pub mul3_assoc : (a b c : Triple C) → mul3 (ops R) (mul3 (ops R) a b) c ≡ mul3 (ops R) a (mul3 (ops R) b c)
  mul3_assoc a b c = solve3 (of3 a b c) (mul3 exprs (mul3 exprs va vb) vc) (mul3 exprs va (mul3 exprs vb vc)) (tt, tt, tt)

  pub mul3_comm : (a b : Triple C) → mul3 (ops R) a b ≡ mul3 (ops R) b a
  mul3_comm a b = solve3 (of2 a b) (mul3 exprs va vb) (mul3 exprs vb va) (tt, tt, tt)

  pub mul3_one : (a : Triple C) → mul3 (ops R) a (constant (ops R) i) ≡ a
  mul3_one a = solve3 (of1 a) (mul3 exprs va (constant exprs one)) va (tt, tt, tt)

  pub distrib3 : (a b c : Triple C) → mul3 (ops R) a (add3 (ops R) b c) ≡ add3 (ops R) (mul3 (ops R) a b) (mul3 (ops R) a c)
  distrib3 a b c = solve3 (of3 a b c) (mul3 exprs va (add3 exprs vb vc)) (add3 exprs (mul3 exprs va vb) (mul3 exprs va vc)) (tt, tt, tt)

  unfoldable pub Cubic : CommRing
  Cubic =
      record {
        Carrier = Triple C;
        zero = constant (ops R) o;
        one = constant (ops R) i;
        add = add3 (ops R);
        mul = mul3 (ops R);
        neg = neg3 (ops R);
        add_assoc = λ a b c. triple_path (R.add_assoc a.x0 b.x0 c.x0) (R.add_assoc a.x1 b.x1 c.x1) (R.add_assoc a.x2 b.x2 c.x2);
        add_comm = λ a b. triple_path (R.add_comm a.x0 b.x0) (R.add_comm a.x1 b.x1) (R.add_comm a.x2 b.x2);
        add-zero = λ a. triple_path (R.add-zero a.x0) (R.add-zero a.x1) (R.add-zero a.x2);
        add-neg = λ a. triple_path (R.add-neg a.x0) (R.add-neg a.x1) (R.add-neg a.x2);
        mul_assoc = mul3_assoc;
        mul_comm = mul3_comm;
        mul-one = mul3_one;
        distrib = distrib3;
      }

  -- a times its cofactor is its norm
  pub mul-cofactor : (a : Triple C) → mul3 (ops R) a (cofactor3 (ops R) a) ≡ constant (ops R) (norm3 (ops R) a)
  mul-cofactor a = solve3 (of1 a) (mul3 exprs va (cofactor3 exprs va)) (constant exprs (norm3 exprs va)) (tt, tt, tt)

  pub norm_mul : (a b : Triple C) → norm3 (ops R) (mul3 (ops R) a b) ≡ mul (norm3 (ops R) a) (norm3 (ops R) b)
  norm_mul a b = solve R (of2 a b) (norm3 exprs (mul3 exprs va vb)) (norm3 exprs va ⊗ norm3 exprs vb) tt

  -- at a root, to take the value is to multiply
  pub value_at_mul : (x : C) → cubic_at (ops R) x ≡ o → (a b : Triple C)
      → value_at (ops R) x (mul3 (ops R) a b) ≡ mul (value_at (ops R) x a) (value_at (ops R) x b)
  value_at_mul x root a b =
      sym (R.add-zero (value_at (ops R) x (mul3 (ops R) a b)))
      ∙ ap (add (value_at (ops R) x (mul3 (ops R) a b))) (sym (ap (mul quotient) root ∙ mul_zero R quotient))
      ∙ solve R (a.x0 ∷ a.x1 ∷ a.x2 ∷ b.x0 ∷ b.x1 ∷ b.x2 ∷ x ∷ [])
      (value_at exprs v6 (mul3 exprs va vb) ⊕ ((v1 ⊗ v5 ⊕ v2 ⊗ v4) ⊕ v6 ⊗ (v2 ⊗ v5)) ⊗ cubic_at exprs v6)
      (value_at exprs v6 va ⊗ value_at exprs v6 vb) tt
    where
      quotient : C
      quotient = add (add (mul a.x1 b.x2) (mul a.x2 b.x1)) (mul x (mul a.x2 b.x2))
