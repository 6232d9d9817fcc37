-- What std's sort leaves is the list in ascending order.
use mathlib.Core.Path.{ap, ◌∙◌}
use Rattle.batch_sorted.specs.Sorted.{sorted}
use Rattle.batch_sorted.proofs.Sorting.{sorted_by_std}
use Rattle.batch_sorted.proofs.unchecked.put_sorted.Goals as goal

pub returns : goal.returns
returns c = sorted_by_std _ c.sort_unstable.new.self c.sort_unstable.ensures.permutation c.sort_unstable.ensures.sorted ∙ ap sorted c.copy_from_slice.ensures.after
