-- Where extension finds no zero denominator, every fraction of the three lookup columns is defined.
use mathlib.Core.Path.{◌≡◌}
use mathlib.Core.Bool.{Bool, false, ◌||◌}
use mathlib.Core.List.{List, [], ◌∷◌}
use Prim.Native.Nat.{ℕ}
use Rattle.std.proofs.lemmas.Bool.{or_parts}
use Rattle.field.specs.Element.{difference, is_zero}
use Rattle.field.specs.declared.XFieldElement.{XFieldElement}
use Rattle.field.proofs.Division.{not_zero}
use Rattle.cross_table_argument.specs.CrossTable.{Fraction}
use Rattle.challenges.specs.Derived.{challenge_at}
use Rattle.table_rows.specs.Rows.{rows}
use Rattle.column_entries.specs.Columns.{Column, input, output, instruction, op_stack, ram, jump_stack, hash_input, hash_digest, sponge, u32, clock, Kind, evaluation, product, lookup, kind_of, Entry, indeterminate_of, weights, entries}
use Rattle.column_entries.specs.Denominators.{has_zero, zero_up_to, zero_denominator}
use Rattle.terms.specs.Counting.{Defined}

defined : (x : XFieldElement) (fs : List Fraction) → has_zero x fs ≡ false → Defined x fs
unfolding has_zero
defined x [] h = tt
defined x (f ∷ fs) h =
    let parts = or_parts (is_zero (difference x f.symbol)) (has_zero x fs) h in
    (not_zero (difference x f.symbol) parts.0, defined x fs parts.1)

none_of : (a b c : Bool) → (a || b || c) ≡ false → (a ≡ false) × (b ≡ false) × (c ≡ false)
none_of a b c h =
    let parts = or_parts (a || b) c h in
    let first = or_parts a b parts.0 in
    (first.0, first.1, parts.1)

-- only fractions can be undefined
abbrev pub DefinedAt : (k : Kind) → XFieldElement → List (Entry k) → Type 0
DefinedAt evaluation x es = Unit {0}
DefinedAt product x es = Unit {0}
DefinedAt lookup x fs = Defined x fs

-- the entries of the whole table, in the record of challenges
module _ (main challenges : List ℕ) where
  abbrev indeterminate : Column → XFieldElement
  indeterminate c = challenge_at challenges (indeterminate_of c)

  abbrev all : (c : Column) → List (Entry (kind_of c))
  all c = entries c (weights c challenges) main (rows main)

  none_zero : zero_denominator main challenges ≡ false
      → (has_zero (indeterminate instruction) (all instruction) ≡ false)
      × (has_zero (indeterminate u32) (all u32) ≡ false)
      × (has_zero (indeterminate clock) (all clock) ≡ false)
  unfolding zero_up_to
  none_zero h =
      none_of (has_zero (indeterminate instruction) (all instruction)) (has_zero (indeterminate u32) (all u32)) (has_zero (indeterminate clock) (all clock)) h

  pub all_defined : (c : Column) → zero_denominator main challenges ≡ false → DefinedAt (kind_of c) (indeterminate c) (all c)
  all_defined input h = tt
  all_defined output h = tt
  all_defined instruction h = defined (indeterminate instruction) (all instruction) (none_zero h).0
  all_defined op_stack h = tt
  all_defined ram h = tt
  all_defined jump_stack h = tt
  all_defined hash_input h = tt
  all_defined hash_digest h = tt
  all_defined sponge h = tt
  all_defined u32 h = defined (indeterminate u32) (all u32) (none_zero h).1
  all_defined clock h = defined (indeterminate clock) (all clock) (none_zero h).2
