-- The bytes of the table are those of the rule, and a word is the byte that it is made of.
use Rattle.std.proofs.Common.{refl, arith, rules, ◌∙◌}
use Rattle.std.proofs.lemmas.List.{ext_get_or}
use Rattle.tip5.specs.declared.TheConstants.{LOOKUP_TABLE}
use Rattle.tip5.specs.LookupTable.{lookup_table}
use Rattle.tip5.proofs.lookup_words.Goals as goal

pub returns : goal.returns
unfolding lookup_table
returns c =
    let items = c.from_fn.ensures.items in
    ext_get_or 0 c.from_fn.result LOOKUP_TABLE items.long (λ i h. let called = items.at i 0 (omega arith) in search rules) ∙ refl
