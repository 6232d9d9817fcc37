-- The constant is 2^128 modulo p.
use Rattle.std.proofs.Common.{ℕ, ◌*◌, ap, ◌∙◌}
use Rattle.algebra.specs.Modulus.{p, times, inverse}
use Rattle.algebra.proofs.Residues.{mul-mod_mod}
use Rattle.field_montgomery.specs.Form.{RADIX, montgomery_inverse}
use Rattle.field_montgomery.proofs.reducing.inverse.Goals as goal

pub returns : goal.returns
unfolding montgomery_inverse
returns c =
    c.mul.ensures ∙ ap (λ (n : ℕ). times n 18446744065119617025) c.inverse.ensures
    ∙ mul-mod_mod (inverse c.args.a) (RADIX * RADIX) p
