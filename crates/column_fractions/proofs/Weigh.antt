-- Weights of which the last meets no word.
use mathlib.Core.Path.{◌≡◌, sym, ap, ap₂, ◌∙◌}
use mathlib.Core.List.{List, [], ◌∷◌}
use Prim.Native.Nat.{ℕ}
use native.Mathlib.Omega.{arith}
use lib.ListN.{length, get_or}
use Rattle.field.specs.Element.{zero}
use Rattle.field.specs.declared.XFieldElement.{XFieldElement}
use Rattle.column_entries.specs.Row.{weigh}
use Rattle.column_compression.proofs.Weigh.{read_out}

module _ (weights : List XFieldElement) where
  abbrev w : ℕ → XFieldElement
  w k = get_or weights k zero

  pub operands : (words : List ℕ) → length weights ≡ 4 → length words ≡ 3
      → weigh weights words ≡ weigh (w 0 ∷ w 1 ∷ w 2 ∷ []) words
  unfolding weigh
  operands words h k =
      let listed = sym (read_out 0 3 0 words (omega arith)) in
      ap₂ weigh (sym (read_out zero 4 0 weights (omega arith))) listed ∙ sym (ap (weigh (w 0 ∷ w 1 ∷ w 2 ∷ [])) listed)
