-- The test of each difference, one after the other.
use Rattle.std.proofs.Common.{ltb, ◌∙◌, rules, tests}
use Rattle.std.proofs.lemmas.Iterator.{YieldsList-from_slice}
use Rattle.std.proofs.lemmas.Iterator.Search.{all_from_yields_List}
use Rattle.table_fill.proofs.Differences.{under_is_all}
use Rattle.table_fill.proofs.all_under.Goals as goal

pub returns : goal.returns
returns c =
    let differences = c.args.differences.now in
    let rows = c.args.rows in
    all_from_yields_List (λ d. ltb d rows) _ _ c.all.result c.all.ensures.ran (YieldsList-from_slice differences cc) (λ x b q k. search (rules, tests)) ∙ under_is_all rows differences
