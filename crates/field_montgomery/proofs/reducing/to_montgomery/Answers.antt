-- The constant is 2^64 modulo p.
use Rattle.std.proofs.Common.{◌∙◌}
use Rattle.algebra.specs.Modulus.{p}
use Rattle.algebra.proofs.Residues.{mul-mod_mod}
use Rattle.field_montgomery.specs.Form.{RADIX, to_montgomery}
use Rattle.field_montgomery.proofs.reducing.to_montgomery.Goals as goal

pub returns : goal.returns
unfolding to_montgomery
returns c = c.mul.ensures ∙ mul-mod_mod c.args.a RADIX p
