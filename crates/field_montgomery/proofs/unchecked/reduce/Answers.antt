-- The high word of q·p, taken from the product's.
use Rattle.std.proofs.Common.{ℕ, ◌+◌, ◌*◌, ◌<◌, ap, ◌∙◌, arith, rules}
use Rattle.field_montgomery.specs.Form.{RADIX, from_montgomery}
use Rattle.field_montgomery.proofs.Reduction.{alone, Carried, carry, no_carry, ends_on, divided}
use Rattle.field_montgomery.proofs.unchecked.reduce.Goals as goal
use Rattle.field_montgomery.proofs.unchecked.reduce.Goals.{else-q-shifted, then-q-shifted}

pub returns : goal.returns
returns c =
    let low : c.args.product.lo < RADIX = search rules in
    let carried : Carried c.args.product.lo c.wrapping_add_u64-q.result c.if-q-shifted.borrow =
    elim c.if-q-shifted.branch [
      | then-q-shifted w ↦ carry _ _ _ low c.wrapping_add_u64-q.ensures.value w.if-q-shifted.true w.borrow-is
      | else-q-shifted w ↦ no_carry _ _ _ low c.wrapping_add_u64-q.ensures.value w.if-q-shifted.false w.borrow-is
    ] in
    let word = carried.word in
    let product = c.args.product in
    c.sub.ensures
    ∙ divided _ product.lo _ _ (omega arith) (ends_on _ _ _ low carried)
    ∙ ap (λ (n : ℕ). from_montgomery (n * RADIX + product.lo)) (alone c.requires.0)
