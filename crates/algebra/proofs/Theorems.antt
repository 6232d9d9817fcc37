-- The statements of specs/Theorems.antt, proved.
use mathlib.Core.Path.{◌≡◌, ap, sym, ◌∙◌}
use mathlib.Core.List.{List, [], ◌∷◌, map}
use mathlib.Core.Logic.{◌≢◌, ◌⊎◌, inl, inr}
use Prim.Native.Nat.{ℕ}
use native.Mathlib.Omega.{arith}
use lib.Dec.{lit<}
use lib.ListN.{length-map}
use Rattle.algebra.specs.Modulus as base
use Rattle.algebra.specs.Modulus.{plus, minus, times}
use Rattle.algebra.specs.Element.{Triple, Below, zero, product, inverse}
use Rattle.algebra.specs.Polynomial.{All, Distinct, value}
use Rattle.algebra.specs.Theorems.{ModulusPrime, NoRoot, BaseInverse, ElementInverse, ElementsAreAField, NoZeroDivisors, RootBound}
use Rattle.algebra.proofs.Primality.{p_prime}
use Rattle.algebra.proofs.FieldLaws.{field_cancel}
use Rattle.algebra.proofs.Base.{BaseRing, el, el-injective, el-times, el_zero, el_one, el-laws, el-nonzero, el-inverse, base_inverse_below, times_below}
use Rattle.algebra.proofs.NoRoot.{base_no_root}
use Rattle.algebra.proofs.Cubic.{ops, cubic_at}
use Rattle.algebra.proofs.Roots as roots
use Rattle.algebra.proofs.Elements as law
use Rattle.algebra.proofs.Elements.{ElementRing, into, into_zero, into_one, into-sum, into-product, into-injective, triple_discrete, zero_below, one_below, product-below}
use Rattle.algebra.proofs.ElementField.{element_field, into-nonzero, into-inverse, inverse_below}

pub modulus_prime : ModulusPrime
modulus_prime = p_prime

el-cubic : (x : ℕ) → el (plus (minus (times x (times x x)) x) 1) ≡ cubic_at (ops BaseRing) (el x)
el-cubic x = simp el-laws

pub no_root : NoRoot
no_root x e = base_no_root (el x) (sym (el-cubic x) ∙ ap el e ∙ el_zero)

pub base_inverse : BaseInverse
base_inverse a lo hi = (
  base_inverse_below a,
  el-injective (times a (base.inverse a)) 1 (times_below a (base.inverse a)) (lit< tt)
      (el-times a (base.inverse a) ∙ el-inverse a (el-nonzero a lo hi) ∙ sym el_one),
)

pub element_inverse : ElementInverse
element_inverse a h ne = (
  inverse_below a,
  into-injective (product a (inverse a)) _ (product-below a (inverse a)) one_below
      (into-product a (inverse a) ∙ into-inverse a (into-nonzero a h ne) ∙ sym into_one),
)

pub elements_are_a_field : ElementsAreAField
elements_are_a_field =
    record {
      zero_below = law.zero_below;
      one_below = law.one_below;
      sum_below = law.sum_below;
      difference_below = law.difference_below;
      product-below = law.product-below;
      sum_assoc = law.sum_assoc;
      sum_comm = law.sum_comm;
      sum_zero = law.sum_zero;
      sum-negative = law.sum-negative;
      difference_sum = law.difference_sum;
      product_assoc = law.product_assoc;
      product_comm = law.product_comm;
      product_one = law.product_one;
      distrib = law.distrib;
      one≢zero = λ e. let z : ◌≡◌ {A = ℕ} 1 0 = ap (λ t. t.x0) e in omega arith;
      product-inverse = element_inverse;
    }

pub no_zero_divisors : NoZeroDivisors
no_zero_divisors a b h k e = go (triple_discrete a zero)
  where
    go : Dec (a ≡ zero) → (a ≡ zero) ⊎ (b ≡ zero)
    go (yes z) = inl z
    go (no f) =
        inr (into-injective b zero k zero_below
        (field_cancel ElementRing element_field (into a) (into b) (into-nonzero a h f) (sym (into-product a b) ∙ ap into e ∙ into_zero)
        ∙ sym into_zero))

-- polynomials and points as the ring has them
into-value : (l : List (Triple ℕ)) (x : Triple ℕ) → into (value l x) ≡ roots.eval ElementRing (map into l) (into x)
unfolding value roots.eval
into-value [] x = into_zero
into-value (a ∷ l) x =
    into-sum a (product x (value l x))
    ∙ ap (ElementRing.add (into a)) (into-product x (value l x) ∙ ap (ElementRing.mul (into x)) (into-value l x))

into-all_zero : (l : List (Triple ℕ)) → All Below l → roots.Zero ElementRing (map into l) → All (λ a. a ≡ zero) l
into-all_zero [] h z = tt
into-all_zero (a ∷ l) h z = (into-injective a zero h.0 zero_below (z.0 ∙ sym into_zero), into-all_zero l h.1 z.1)

into-apart : (x : Triple ℕ) (xs : List (Triple ℕ)) → Below x → All Below xs → All (λ y. y ≢ x) xs → All (λ y. y ≢ into x) (map into xs)
into-apart x [] h k d = tt
into-apart x (y ∷ xs) h k d = (λ e. d.0 (into-injective y x k.0 h e), into-apart x xs h k.1 d.1)

into-distinct : (xs : List (Triple ℕ)) → All Below xs → Distinct xs → Distinct (map into xs)
into-distinct [] h d = tt
into-distinct (x ∷ xs) h d = (into-apart x xs h.0 h.1 d.0, into-distinct xs h.1 d.1)

into-roots : (l xs : List (Triple ℕ)) → All (λ x. value l x ≡ zero) xs → All (λ y. roots.eval ElementRing (map into l) y ≡ ElementRing.zero) (map into xs)
into-roots l [] z = tt
into-roots l (x ∷ xs) z = (sym (into-value l x) ∙ ap into z.0 ∙ into_zero, into-roots l xs z.1)

pub root_bound : RootBound
root_bound l xs h k ne d z =
    rw (← (length-map xs into), ← (length-map l into))
    (roots.root_bound ElementRing element_field (map into l) (map into xs)
    (λ t. ne (into-all_zero l h t)) (into-distinct xs k d) (into-roots l xs z))
