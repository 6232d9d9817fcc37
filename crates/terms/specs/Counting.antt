-- Term 3, kind by kind: at how many values of the indeterminate two lists of entries that differ give the same cell.
use Rattle.std.specs.Prelude.{◌≡◌, ◌≢◌, cond, List, [], ◌∷◌, ℕ, ◌+◌, ◌-◌, ◌%◌, ◌≤◌, max, length}
use Rattle.algebra.specs.Modulus.{p}
use Rattle.algebra.specs.Polynomial.{All, Distinct}
use Rattle.field.specs.Element.{Canonical, same, zero, difference}
use Rattle.field.specs.declared.XFieldElement.{XFieldElement}
use Rattle.cross_table_argument.specs.CrossTable.{Fraction, evaluation_argument, permutation_argument, lookup_argument}

-- how often an element stands in a list
unfoldable pub count : XFieldElement → List XFieldElement → ℕ
unfolding same
count e [] = 0
count e (f ∷ fs) = cond (same f e) 1 0 + count e fs

-- each element stands equally often in both
abbrev pub SameBag : List XFieldElement → List XFieldElement → Type 0
SameBag es fs = (e : XFieldElement) → count e es ≡ count e fs

-- the numerators of an element's fractions, summed
unfoldable pub numerators : XFieldElement → List Fraction → ℕ
unfolding same
numerators e [] = 0
numerators e (f ∷ fs) = cond (same f.symbol e) f.numerator 0 + numerators e fs

-- the numerators, summed modulo p, differ for some element
abbrev pub NumeratorsDiffer : List Fraction → List Fraction → Type 0
NumeratorsDiffer es fs = (e : XFieldElement) × (numerators e es % p ≢ numerators e fs % p)

-- no denominator is zero at x
abbrev pub Defined : XFieldElement → List Fraction → Type 0
Defined x fs = All (λ f. difference x f.symbol ≢ zero) fs

-- Values of the indeterminate are counted among all p³ elements, those with three words below p (Canonical):
-- any list of such values without duplicates is no longer than the bound.

-- evaluation columns: the entries differ as lists
abbrev pub EvaluationBound : Type 0
EvaluationBound =
    (es fs : List XFieldElement) → All Canonical es → All Canonical fs → es ≢ fs
    → (xs : List XFieldElement) → All Canonical xs → Distinct xs
    → All (λ x. evaluation_argument x es ≡ evaluation_argument x fs) xs → length xs ≤ max (length es) (length fs)

-- product columns: the entries differ as bags
abbrev pub ProductBound : Type 0
ProductBound =
    (es fs : List XFieldElement) → All Canonical es → All Canonical fs → ¬ SameBag es fs
    → (xs : List XFieldElement) → All Canonical xs → Distinct xs
    → All (λ x. permutation_argument x es ≡ permutation_argument x fs) xs → length xs ≤ max (length es) (length fs)

-- lookup columns: some element's numerators differ; a value at which a denominator is zero is refused, and not counted
abbrev pub LookupBound : Type 0
LookupBound =
    (es fs : List Fraction) → All (λ f. Canonical f.symbol) es → All (λ f. Canonical f.symbol) fs → NumeratorsDiffer es fs
    → (xs : List XFieldElement) → All Canonical xs → Distinct xs
    → All (λ x. Defined x es × Defined x fs × (lookup_argument x es ≡ lookup_argument x fs)) xs → length xs ≤ length es + length fs - 1
