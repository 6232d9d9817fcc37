-- A row's only fraction, and a row's two, without the products by one and by zero.
use mathlib.Core.Path.{◌≡◌, refl, ap, ◌∙◌}
use mathlib.Core.List.{[], ◌∷◌}
use Prim.Native.Nat.{ℕ, ◌<◌}
use Rattle.algebra.specs.Modulus.{p}
use Rattle.field.specs.Element.{Canonical, lift, zero, one, sum, difference, product}
use Rattle.field.specs.declared.XFieldElement.{XFieldElement}
use Rattle.field.proofs.Laws.{difference_canonical, product_one}
use Rattle.field.proofs.Units.{lift_canonical, one_canonical, zero_sum, zero_product, one_product}
use Rattle.column_entries.specs.Entries.{one_over}
use Rattle.column_entries.specs.Contribution.{sum_of_fractions, no_fraction}
use Rattle.column_entries.specs.declared.RowFraction.{RowFraction}

-- the numerators, with no fraction before and with one
first_numerator : (k : ℕ) (d : XFieldElement) → k < p → sum (product zero d) (product (lift k) one) ≡ lift k
first_numerator k d h =
    rw (zero_product d, product_one (lift k) (lift_canonical k h), zero_sum (lift k) (lift_canonical k h))

second_numerator : (d e : XFieldElement) → Canonical d → Canonical e → sum (product one e) (product one d) ≡ sum e d
second_numerator d e c b = rw (one_product d c, one_product e b)

over : {n n' d d' : XFieldElement} → n ≡ n' → d ≡ d'
    → ◌≡◌ {A = RowFraction} (record { numerator = n; denominator = d }) (record { numerator = n'; denominator = d' })
over e₁ e₂ = cc

module _ (z : XFieldElement) where
  pub single : (k : ℕ) (s : XFieldElement) → k < p
      → sum_of_fractions z no_fraction (record { numerator = k; symbol = s } ∷ []) ≡ record { numerator = lift k; denominator = difference z s }
  unfolding sum_of_fractions
  single k s h = over (first_numerator k (difference z s) h) (one_product (difference z s) (difference_canonical z s))

  pub double : (s t : XFieldElement)
      → sum_of_fractions z no_fraction (one_over s ∷ one_over t ∷ [])
      ≡ record { numerator = sum (difference z t) (difference z s); denominator = product (difference z s) (difference z t) }
  unfolding sum_of_fractions
  double s t =
      ap (λ (f : RowFraction). sum_of_fractions z f (one_over t ∷ [])) (single 1 s one_canonical.below0)
      ∙ over (second_numerator (difference z s) (difference z t) (difference_canonical z s) (difference_canonical z t)) refl
