-- The rows before decode and are below p; the words from them on, and the rows, are left to decide.
use mathlib.Core.Path.{◌≡◌}
use Prim.Native.Nat.{◌-◌, ◌*◌}
use lib.ListN.{drop}
use Rattle.field_base.specs.Words.{all_below}
use Rattle.extend_answer.specs.Strict.{undecodable, undecodable_from}
use Rattle.extend_answer.proofs.strict_rows_answer.Given as goal

abbrev pub invariant-loop-c : goal.invariant-loop-c
invariant-loop-c l = (all_below l.main ≡ all_below (drop (l.c * 39) l.main)) × (undecodable l.main ≡ undecodable_from l.main l.c (l.rows - l.c))
