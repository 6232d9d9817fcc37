use Rattle.field.specs.Element.{canonical}
use Rattle.field.proofs.is_canonical.Goals as goal

pub returns : goal.returns
unfolding canonical
returns c = c.all_below.ensures
