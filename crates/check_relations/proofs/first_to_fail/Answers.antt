use Rattle.std.proofs.Common.{ℕ, sym, ap, ◌∙◌, option_map}
use Rattle.check_relations.specs.First.{place}
use Rattle.check_relations.proofs.first_to_fail.Goals as goal

pub returns-in_err-column : goal.returns-in_err-column
returns-in_err-column c = c.from_residual.ensures ∙ ap (option_map (λ (k : ℕ). place c.args.r (record { 0 = k }))) (sym c.in_err-column.was ∙ c.first_false.ensures)

pub returns : goal.returns
returns c = ap (option_map (λ (k : ℕ). place c.args.r (record { 0 = k }))) (sym c.in_ok-column.was ∙ c.first_false.ensures)
