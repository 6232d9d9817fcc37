-- The three arguments over the program's elements, in the field that `into` takes them to.
use mathlib.Core.Path.{◌≡◌, refl, ap, sym, ◌∙◌}
use mathlib.Core.Logic.{◌≢◌}
use mathlib.Core.List.{List, [], ◌∷◌, map}
use Rattle.algebra.proofs.RingLaws.{zero-add, one-mul}
use Rattle.algebra.proofs.FieldLaws.{unit_unique}
use Rattle.algebra.proofs.Elements.{ElementRing as R, zero_below}
use Rattle.algebra.proofs.ElementField.{element_field as K}
use Rattle.field.specs.Element.{lift, zero, one, sum, difference, product, scale, inverse}
use Rattle.field.specs.declared.XFieldElement.{XFieldElement}
use Rattle.field.proofs.Laws.{into, into-injective, into_zero, into_one, into-sum, into-difference, into-product, into-scale, into-inverse, difference_canonical}
use Rattle.cross_table_argument.specs.CrossTable.{Fraction, evaluation, evaluation_argument, running_product, permutation_argument, running_sum, lookup_argument}
use Rattle.terms.specs.Counting.{Defined}
use Rattle.terms.proofs.Lists.{All-map}
use Rattle.terms.proofs.Polynomials as ring
use Rattle.terms.proofs.Evaluation as ring-evaluation
use Rattle.terms.proofs.Fractions as ring-sum
use Rattle.terms.proofs.Fractions.{Term}
open R use {zero as o, add, mul, add-zero, add_assoc, mul-one, mul_assoc}

into-evaluation_from : (x r : XFieldElement) (es : List XFieldElement)
    → into (evaluation x r es) ≡ ring-evaluation.evaluation R (into x) (into r) (map into es)
unfolding evaluation ring-evaluation.evaluation
into-evaluation_from x r [] = refl
into-evaluation_from x r (e ∷ es) =
    into-evaluation_from x (sum (product x r) e) es
    ∙ ap (λ y. ring-evaluation.evaluation R (into x) y (map into es))
    (into-sum (product x r) e ∙ ap (λ y. add y (into e)) (into-product x r))

pub into-evaluation : (x : XFieldElement) (es : List XFieldElement)
    → into (evaluation_argument x es) ≡ ring-evaluation.evaluation R (into x) R.one (map into es)
into-evaluation x es =
    into-evaluation_from x one es ∙ ap (λ y. ring-evaluation.evaluation R (into x) y (map into es)) into_one

into-product_from : (x r : XFieldElement) (es : List XFieldElement)
    → into (running_product x r es) ≡ mul (into r) (ring.product R (into x) (map into es))
unfolding running_product ring.product
into-product_from x r [] = sym (mul-one (into r))
into-product_from x r (e ∷ es) =
    into-product_from x (product r (difference x e)) es
    ∙ ap (λ y. mul y (ring.product R (into x) (map into es)))
    (into-product r (difference x e) ∙ ap (mul (into r)) (into-difference x e))
    ∙ mul_assoc (into r) (ring.sub R (into x) (into e)) (ring.product R (into x) (map into es))

pub into-permutation : (x : XFieldElement) (es : List XFieldElement)
    → into (permutation_argument x es) ≡ ring.product R (into x) (map into es)
into-permutation x es =
    into-product_from x one es ∙ ap (λ y. mul y (ring.product R (into x) (map into es))) into_one
    ∙ one-mul R (ring.product R (into x) (map into es))

-- a fraction, its numerator as an element
abbrev pub term : Fraction → Term R.Carrier
term f = record { numerator = into (lift f.numerator); symbol = into f.symbol }

into-denominator : (x e : XFieldElement) → difference x e ≢ zero → into (difference x e) ≢ o
into-denominator x e ne z = ne (into-injective (difference_canonical x e) zero_below (z ∙ sym into_zero))

into-over : (a : XFieldElement) → into a ≢ o → into (inverse a) ≡ ring-sum.inverse R K (into a)
into-over a ne =
    unit_unique R (into a) (into (inverse a)) (ring-sum.inverse R K (into a))
    (into-inverse a ne) (ring-sum.mul-inverse R K (into a) ne)

into-fraction : (x : XFieldElement) (f : Fraction) → difference x f.symbol ≢ zero
    → into (scale f.numerator (inverse (difference x f.symbol))) ≡ ring-sum.value_at R K (into x) (term f)
into-fraction x f ne =
    into-scale f.numerator (inverse (difference x f.symbol))
    ∙ ap (mul (into (lift f.numerator)))
    (into-over (difference x f.symbol) (into-denominator x f.symbol ne)
    ∙ ap (ring-sum.inverse R K) (into-difference x f.symbol))

into-sum_from : (x r : XFieldElement) (fs : List Fraction) → Defined x fs
    → into (running_sum x r fs) ≡ add (into r) (ring-sum.sum R K (into x) (map term fs))
unfolding running_sum ring-sum.sum
into-sum_from x r [] d = sym (add-zero (into r))
into-sum_from x r (f ∷ fs) d =
    into-sum_from x (sum r (scale f.numerator (inverse (difference x f.symbol)))) fs d.1
    ∙ ap (λ y. add y (ring-sum.sum R K (into x) (map term fs)))
    (into-sum r (scale f.numerator (inverse (difference x f.symbol))) ∙ ap (add (into r)) (into-fraction x f d.0))
    ∙ add_assoc (into r) (ring-sum.value_at R K (into x) (term f))
    (ring-sum.sum R K (into x) (map term fs))

pub into-lookup : (x : XFieldElement) (fs : List Fraction) → Defined x fs
    → into (lookup_argument x fs) ≡ ring-sum.sum R K (into x) (map term fs)
into-lookup x fs d =
    into-sum_from x zero fs d ∙ ap (λ y. add y (ring-sum.sum R K (into x) (map term fs))) into_zero
    ∙ zero-add R (ring-sum.sum R K (into x) (map term fs))

pub into-defined : (x : XFieldElement) (fs : List Fraction) → Defined x fs → ring-sum.Defined R K (into x) (map term fs)
into-defined x fs d =
    All-map (λ f. difference x f.symbol ≢ zero) (λ w. ring.sub R (into x) w.symbol ≢ o) term
    (λ f ne z. into-denominator x f.symbol ne (into-difference x f.symbol ∙ z)) fs d
