-- The second run takes the weights behind those of the first.
use mathlib.Core.Path.{ap, ◌∙◌}
use lib.Seq.{drop-drop}
use Rattle.field.specs.Element.{sum}
use Rattle.column_compression.proofs.Weigh.{all_words}
use Rattle.column_states.proofs.Weighing.{weigh_append}
use Rattle.column_states.proofs.unchecked.weigh_both.Goals as goal

pub returns : goal.returns
returns g c = (
  c.weigh_words.ensures.0
      ∙ ap (sum _) (all_words _ c.args.second.now c.weigh_words-behind.ensures.0)
      ∙ rw (weigh_append, drop-drop),
  c.weigh_words.ensures.1,
)
