use Rattle.field.specs.Element.{is_zero}
use Rattle.field.proofs.is_zero.Goals as goal

pub returns : goal.returns
unfolding is_zero
returns c = c.eq.ensures
