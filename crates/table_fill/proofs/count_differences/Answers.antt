-- What is counted so far leaves the other differences to count.
use Rattle.std.proofs.Common.{◌/◌, length, sym, ◌∙◌, arith, rules}
use Rattle.std.proofs.lemmas.List.{at_drop_more, at_drop_all}
use Rattle.table_fill.specs.Counted.{counted}
use Rattle.table_fill.proofs.Differences.{under_at}
use Rattle.table_fill.proofs.count_differences.Goals as goal

pub raise_multiplicity-requires : goal.raise_multiplicity-requires
raise_multiplicity-requires c =
    let d = under_at (length c.args.table.now / 39) c.args.differences.now c.loop-d.d-index (search rules) c.requires in
    (omega arith, search rules)

pub loop-d-preserved : goal.loop-d-preserved
unfolding counted
loop-d-preserved c =
    c.loop-d.invariant ∙ at_drop_more (λ l. counted l c.loop-d.table) c.args.differences.now c.loop-d.d-index 0 (search rules) ∙ rw c.raise_multiplicity.ensures

pub returns : goal.returns
unfolding counted
returns c = sym (c.loop-d.invariant ∙ at_drop_all (λ l. counted l c.loop-d.table) c.args.differences.now c.loop-d.d-index c.loop-d-test.false)
