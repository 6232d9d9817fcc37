-- Before the loop no word is in the sum.
use borrow.Author.Rules.{rules}
use mathlib.Core.Path.{sym, ap}
use Rattle.column_compression.proofs.Weigh.{none_left}
use Rattle.column_compression.proofs.compress3_c0.Goals as goal

pub loop-i-init : goal.loop-i-init
loop-i-init c = record {
  few = search rules;
  is = sym (ap (λ e. e.c0) (none_left c.args.weights c.args.words 3 3 (search rules)));
}
