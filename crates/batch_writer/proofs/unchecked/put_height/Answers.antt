-- Two stores, or none.
use borrow.Author.Tests.{eq-eqb, ne_eqb}
use mathlib.Core.Path.{◌≡◌}
use mathlib.Core.List.{[], ◌∷◌}
use Prim.Native.Nat.{◌%◌, ◌≤◌}
use native.Mathlib.Omega.{arith}
use lib.ListN.{length}
use Rattle.batch_words.specs.Words.{little_endian}
use Rattle.batch_words.proofs.Pasting.{stored, pasted_none}
use Rattle.batch_writer.proofs.Laying.{laid_height}
use Rattle.batch_writer.proofs.unchecked.put_height.Goals as goal

pub returns-then-log2_height-eq0-clause-batch_after : goal.returns-then-log2_height-eq0-clause-batch_after
returns-then-log2_height-eq0-clause-batch_after c = let args = c.args in rw (laid_height args.log2_height, eq-eqb _ 0 c.if-log2_height-eq0.true) (pasted_none args.batch.now 5)

pub returns-clause-batch_after : goal.returns-clause-batch_after
unfolding little_endian
returns-clause-batch_after c =
    let there : 7 ≤ length c.args.batch.now = rw (ne_eqb _ 0 c.if-log2_height-eq0.false) at c.requires.1 in
    let args = c.args in
    let k = args.log2_height in
    let small : k % 256 ≡ k = omega (arith, c.requires.0) in
    rw (laid_height k, ne_eqb k 0 c.if-log2_height-eq0.false, small, c.from.ensures) (stored args.batch.now 5 11 (k ∷ []) there)
