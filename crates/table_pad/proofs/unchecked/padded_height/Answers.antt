-- Up to 22 nothing is shifted out.
use Rattle.std.proofs.Common.{◌≡◌, ◌≢◌, ℕ, ◌*◌, ◌%◌, ◌^◌, ◌≤◌, ◌∙◌, lit<, arith, ne_eqb}
use native.Mathlib.Nat.{one-mul, pow-le-pow_right}
use lib.Pow.{shl_exact}
use Rattle.table_pad.proofs.unchecked.padded_height.Goals as goal

shifted : (k : ℕ) → k ≤ 22 → 1 * 2 ^ k % 2 ^ 64 ≡ 2 ^ k
shifted k h = shl_exact 1 k 64 (lit< tt) (omega arith) ∙ one-mul (2 ^ k)

pub returns : goal.returns
returns c =
    let k = c.args.log2_height in
    let e = shifted k c.requires in
    let some : k ≢ 0 = omega arith in
    (e ∙ rw (ne_eqb k 0 some), rw e (pow-le-pow_right {n = 2} (lit< tt) {i = 1} {j = k} (omega arith)), rw e (pow-le-pow_right {n = 2} (lit< tt) {i = k} {j = 22} c.requires))
