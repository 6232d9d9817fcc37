use Rattle.std.proofs.Common.{sym, ◌∙◌}
use Rattle.field.proofs.Below.{canonical_true}
use Rattle.field.proofs.checked.Goals as goal

pub returns-then-is_canonical-clause-canonical : goal.returns-then-is_canonical-clause-canonical
returns-then-is_canonical-clause-canonical c = canonical_true _ (sym c.is_canonical.ensures ∙ c.if-is_canonical.true)
