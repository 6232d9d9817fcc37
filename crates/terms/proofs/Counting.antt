-- The statements of specs/Counting.antt, proved.
use mathlib.Core.Path.{◌≡◌, ap, sym, ◌∙◌}
use mathlib.Core.List.{List, map}
use native.Mathlib.Omega.{arith}
use lib.ListN.{length-map}
use Rattle.algebra.specs.Polynomial.{All, Distinct}
use Rattle.algebra.proofs.Elements.{ElementRing as R}
use Rattle.algebra.proofs.ElementField.{element_field as K}
use Rattle.field.specs.Element.{Canonical}
use Rattle.field.specs.declared.XFieldElement.{XFieldElement}
use Rattle.field.proofs.Laws.{into, into-injective}
use Rattle.cross_table_argument.specs.CrossTable.{evaluation_argument, permutation_argument, lookup_argument}
use Rattle.terms.specs.Counting.{Defined, EvaluationBound, ProductBound, LookupBound}
use Rattle.terms.proofs.Lists.{All-map, map_injective, map-distinct}
use Rattle.terms.proofs.Polynomials.{product}
use Rattle.terms.proofs.Evaluation as ring-evaluation
use Rattle.terms.proofs.Products as ring-product
use Rattle.terms.proofs.Fractions as ring-sum
use Rattle.terms.proofs.Arguments.{into-evaluation, into-permutation, term, into-lookup, into-defined}
use Rattle.terms.proofs.Counts.{into-differ, into-bag}

into-distinct : (xs : List XFieldElement) → All Canonical xs → Distinct xs → Distinct (map into xs)
into-distinct = map-distinct Canonical into (λ a b c d. into-injective c d)

pub evaluation_bound : EvaluationBound
evaluation_bound es fs ce cf ne xs cx d z =
    let h = ring-evaluation.evaluation_bound R K (map into es) (map into fs)
    (λ q. ne (map_injective Canonical into (λ a b c d. into-injective c d) es fs ce cf q)) (map into xs) (into-distinct xs cx d)
    (All-map (λ x. evaluation_argument x es ≡ evaluation_argument x fs)
    (λ y. ring-evaluation.evaluation R y R.one (map into es) ≡ ring-evaluation.evaluation R y R.one (map into fs))
    into (λ x q. sym (into-evaluation x es) ∙ ap into q ∙ into-evaluation x fs) xs z) in
    omega (arith, h, length-map es into, length-map fs into, length-map xs into)

pub product-bound : ProductBound
product-bound es fs ce cf ne xs cx d z =
    let h = ring-product.product-bound R K (map into es) (map into fs)
    (λ q. ne (into-bag es fs ce cf q)) (map into xs) (into-distinct xs cx d)
    (All-map (λ x. permutation_argument x es ≡ permutation_argument x fs)
    (λ y. product R y (map into es) ≡ product R y (map into fs))
    into (λ x q. sym (into-permutation x es) ∙ ap into q ∙ into-permutation x fs) xs z) in
    omega (arith, h, length-map es into, length-map fs into, length-map xs into)

pub lookup_bound : LookupBound
lookup_bound es fs ce cf ne xs cx d z =
    let h = ring-sum.lookup_bound R K (map term es) (map term fs)
    (into ne.0) (into-differ es fs ce cf ne) (map into xs) (into-distinct xs cx d)
    (All-map (λ x. Defined x es × Defined x fs × (lookup_argument x es ≡ lookup_argument x fs))
    (λ y. ring-sum.Defined R K y (map term es) × ring-sum.Defined R K y (map term fs)
    × (ring-sum.sum R K y (map term es) ≡ ring-sum.sum R K y (map term fs)))
    into
    (λ x q. (into-defined x es q.0, into-defined x fs q.1, sym (into-lookup x es q.0) ∙ ap into q.2 ∙ into-lookup x fs q.1))
    xs z) in
    omega (arith, h, length-map es term, length-map fs term, length-map xs into)
