-- No words stand behind these.
use lib.ListN.{drop}
use Rattle.column_compression.proofs.Weigh.{all_words}
use Rattle.column_states.proofs.unchecked.weigh_state.Goals as goal

pub returns : goal.returns
returns g c = (all_words (drop c.args.from c.args.weights) c.args.words.now c.weigh_words.ensures.0, c.weigh_words.ensures.1)
