-- The bytes of the first i words are in the batch, which is as it was elsewhere.
use mathlib.Core.Path.{◌≡◌}
use lib.ListN.{take}
use Rattle.field_montgomery.specs.Form.{in_form}
use Rattle.batch_words.specs.Words.{bytes_of}
use Rattle.batch_words.specs.Pasted.{pasted}
use Rattle.batch_words.proofs.unchecked.write_words.Given as goal

abbrev pub invariant-loop-i : goal.invariant-loop-i
invariant-loop-i l = l.batch ≡ pasted l.initial.batch l.at (bytes_of (take l.i (in_form l.form l.words)))
