-- The list of the rule's bytes.
use Rattle.std.proofs.Common.{◌≡◌, true, refl}
use Rattle.field_base.specs.Words.{all_below}
use Rattle.tip5.specs.LookupTable.{lookup_table}

pub table_below : all_below lookup_table ≡ true
unfolding lookup_table all_below
table_below = refl
