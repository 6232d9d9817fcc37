-- How often elements stand in a list, and their numerators, in the field that `into` takes them to.
use mathlib.Core.Path.{◌≡◌, refl, ap, ap₂, sym, ◌∙◌, subst}
use mathlib.Core.Logic.{◌≢◌}
use mathlib.Core.Bool.{Bool, true, false, cond}
use mathlib.Core.List.{List, [], ◌∷◌, map}
use Prim.Native.Nat.{ℕ, ◌+◌, ◌%◌}
use native.Mathlib.Nat.{zero-add, mod-lt}
use native.Mathlib.Decide.{ℕ_discrete}
use Rattle.algebra.specs.Modulus.{p}
use Rattle.algebra.specs.Element as plain
use Rattle.algebra.specs.Polynomial.{All}
use Rattle.algebra.proofs.Base.{p_positive, el-mod}
use Rattle.algebra.proofs.Elements.{ElementRing as R, scalar, into-lift, lift_below}
use Rattle.algebra.proofs.ElementField.{element_field as K}
use Rattle.field.specs.Element.{Canonical, same, lift, sum}
use Rattle.field.specs.declared.XFieldElement.{XFieldElement}
use Rattle.field.proofs.Laws.{into, into-injective, into_zero, into-sum}
use Rattle.field.proofs.Division.{is_same, to_same}
use Rattle.cross_table_argument.specs.CrossTable.{Fraction}
use Rattle.terms.specs.Counting.{count, SameBag, numerators, NumeratorsDiffer}
use Rattle.terms.proofs.Tests.{choose, choose_cond}
use Rattle.terms.proofs.Products as ring-product
use Rattle.terms.proofs.Fractions as ring-sum
use Rattle.terms.proofs.Arguments.{term}
open R use {zero as o, add}

choose_same : {A : Type 0} (a b : XFieldElement) → Canonical a → Canonical b → (u v : A)
    → choose (K.discrete (into a) (into b)) u v ≡ cond (same a b) u v
choose_same a b c d u v =
    choose_cond (K.discrete (into a) (into b)) (same a b) u v
    (λ q. to_same a b (into-injective c d q)) (λ t. ap into (is_same a b t))

-- an element that is counted is one of the entries, so its words are below p
counted : (f e : XFieldElement) (m n : ℕ) → Canonical f → cond (same f e) m 0 + n ≢ 0 → (n ≢ 0 → Canonical e) → Canonical e
counted f e m n c = go (same f e) (is_same f e)
  where
    go : (t : Bool) → (t ≡ true → f ≡ e) → cond t m 0 + n ≢ 0 → (n ≢ 0 → Canonical e) → Canonical e
    go true h ne later = subst Canonical (h refl) c
    go false h ne later = later (λ z. ne (zero-add n ∙ z))

numerators_canonical : (e : XFieldElement) (fs : List Fraction) → All (λ f. Canonical f.symbol) fs → numerators e fs ≢ 0 → Canonical e
unfolding numerators
numerators_canonical e [] c ne = absurd (ne refl)
numerators_canonical e (f ∷ fs) c ne =
    counted f.symbol e f.numerator (numerators e fs) c.0 ne (numerators_canonical e fs c.1)

count-canonical : (e : XFieldElement) (es : List XFieldElement) → All Canonical es → count e es ≢ 0 → Canonical e
unfolding count
count-canonical e [] c ne = absurd (ne refl)
count-canonical e (f ∷ fs) c ne = counted f e 1 (count e fs) c.0 ne (count-canonical e fs c.1)

-- a numerator matters modulo p
into-mod : (n : ℕ) → into (lift (n % p)) ≡ into (lift n)
into-mod n = into-lift (n % p) ∙ ap scalar (el-mod n) ∙ sym (into-lift n)

into-add : (m n : ℕ) → into (lift (m + n)) ≡ add (into (lift m)) (into (lift n))
unfolding sum plain.sum
into-add m n = sym (into-mod (m + n)) ∙ into-sum (lift m) (lift n)

into-lift_injective : (m n : ℕ) → into (lift m) ≡ into (lift n) → m % p ≡ n % p
into-lift_injective m n e =
    ap (λ a. a.c0)
    (into-injective (lift_below (m % p) (mod-lt m p_positive)) (lift_below (n % p) (mod-lt n p_positive))
    (into-mod m ∙ e ∙ sym (into-mod n)))

into-cond : (t : Bool) (n : ℕ) → cond t (into (lift n)) o ≡ into (lift (cond t n 0))
into-cond true n = refl
into-cond false n = sym into_zero

into-numerators : (e : XFieldElement) → Canonical e → (fs : List Fraction) → All (λ f. Canonical f.symbol) fs
    → ring-sum.total R K (into e) (map term fs) ≡ into (lift (numerators e fs))
unfolding numerators ring-sum.total
into-numerators e c [] cs = sym into_zero
into-numerators e c (f ∷ fs) cs =
    ap₂ add (choose_same f.symbol e cs.0 c (into (lift f.numerator)) o ∙ into-cond (same f.symbol e) f.numerator)
    (into-numerators e c fs cs.1)
    ∙ sym (into-add (cond (same f.symbol e) f.numerator 0) (numerators e fs))

pub into-differ : (es fs : List Fraction) → All (λ f. Canonical f.symbol) es → All (λ f. Canonical f.symbol) fs
    → (d : NumeratorsDiffer es fs)
    → ring-sum.total R K (into d.0) (map term es) ≢ ring-sum.total R K (into d.0) (map term fs)
into-differ es fs ce cf (e, ne) t =
    ne (into-lift_injective (numerators e es) (numerators e fs)
    (sym (into-numerators e c es ce) ∙ t ∙ into-numerators e c fs cf))
  where
    known : Dec (numerators e es ≡ 0) → Canonical e
    known (no n) = numerators_canonical e es ce n
    known (yes z) = numerators_canonical e fs cf (λ y. ne (ap (λ (n : ℕ). n % p) (z ∙ sym y)))

    c : Canonical e
    c = known (ℕ_discrete (numerators e es) 0)

into-count : (e : XFieldElement) → Canonical e → (es : List XFieldElement) → All Canonical es
    → ring-product.count R K (into e) (map into es) ≡ count e es
unfolding count ring-product.count
into-count e c [] cs = refl
into-count e c (f ∷ fs) cs = ap₂ ◌+◌ (choose_same f e cs.0 c 1 0) (into-count e c fs cs.1)

pub into-bag : (es fs : List XFieldElement) → All Canonical es → All Canonical fs
    → ring-product.SameBag R K (map into es) (map into fs) → SameBag es fs
into-bag es fs ce cf h e = go (ℕ_discrete (count e es) 0) (ℕ_discrete (count e fs) 0)
  where
    known : Canonical e → count e es ≡ count e fs
    known c = sym (into-count e c es ce) ∙ h (into e) ∙ into-count e c fs cf

    go : Dec (count e es ≡ 0) → Dec (count e fs ≡ 0) → count e es ≡ count e fs
    go (no n) d = known (count-canonical e es ce n)
    go (yes z) (no n) = known (count-canonical e fs cf n)
    go (yes z) (yes y) = z ∙ sym y
