-- A product with 1 divides by 2^64.
use Rattle.std.proofs.Common.{ap, ◌∙◌, one-mul}
use Rattle.field_montgomery.specs.Form.{from_montgomery, montgomery_product}
use Rattle.field_montgomery.proofs.reducing.from_montgomery.Goals as goal

pub returns : goal.returns
unfolding montgomery_product
returns c = c.mul.ensures ∙ ap from_montgomery (one-mul c.args.a)
