-- A product's words are the product.
use Rattle.std.proofs.Common.{ap, ◌∙◌}
use Rattle.field_montgomery.specs.Form.{from_montgomery, montgomery_product}
use Rattle.field_montgomery.proofs.unchecked.mul.Goals as goal

pub returns : goal.returns
unfolding montgomery_product
returns c = c.reduce.ensures ∙ ap from_montgomery c.first_product.ensures.0
