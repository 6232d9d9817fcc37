-- A k that the writer takes: 0, or one that sets the height.
use mathlib.Core.Path.{◌≡◌, refl}
use mathlib.Core.Bool.{Bool, true, false, not, ◌&&◌}
use Prim.Native.Nat.{ℕ, ◌^◌, ◌≤◌}
use native.Mathlib.Omega.{arith}
use lib.Dec.{eqb, leb, ltb}
use borrow.Author.Tests.{eqb-true, leb-true, not-false}
use Rattle.field_base.proofs.Below.{and-true}
use Rattle.refusal.proofs.Answers.{or-false}
use Rattle.batch_commands.specs.Format.{MAX-LOG-2-HEIGHT}
use Rattle.batch_commands.specs.Fault.{wrong_height}
use Rattle.batch_writer.specs.Write.{refused_height}

small_by : (rows k : ℕ) (none : Bool) → eqb k 0 ≡ none → (not none && wrong_height rows k) ≡ false → k ≤ MAX-LOG-2-HEIGHT
small_by rows k true e t = omega (arith, eqb-true k 0 e)
small_by rows k false e t =
    let range = (or-false (not (leb 1 k && leb k MAX-LOG-2-HEIGHT)) (ltb (2 ^ k) rows) t).0 in
    leb-true k MAX-LOG-2-HEIGHT (and-true (leb 1 k) (leb k MAX-LOG-2-HEIGHT) (not-false (leb 1 k && leb k MAX-LOG-2-HEIGHT) range)).1

pub small : (rows k : ℕ) → refused_height rows k ≡ false → k ≤ MAX-LOG-2-HEIGHT
small rows k t = small_by rows k (eqb k 0) refl t
