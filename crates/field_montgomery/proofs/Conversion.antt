-- A product with a number is undone by one with its inverse, and a conversion is of a number modulo p.
use Rattle.std.proofs.Common.{◌≡◌, ℕ, ◌*◌, ◌%◌, ◌<◌, sym, ap, ◌∙◌, mod-eq_of_lt, mul_assoc, mul-one}
use Rattle.algebra.specs.Modulus.{p, times}
use Rattle.algebra.proofs.Residues.{mod-mul_mod, mul-mod_mod}
use Rattle.field_montgomery.specs.Form.{from_montgomery}

pub undone : (x a b : ℕ) → times a b ≡ 1 → x < p → times (times x a) b ≡ x
undone x a b e h =
    mod-mul_mod (x * a) b p ∙ ap (λ (n : ℕ). n % p) (mul_assoc x a b)
    ∙ sym (mul-mod_mod x (a * b) p) ∙ ap (λ (n : ℕ). (x * n) % p) e
    ∙ ap (λ (n : ℕ). n % p) (mul-one x) ∙ mod-eq_of_lt h

pub from_mod : (n : ℕ) → from_montgomery (n % p) ≡ from_montgomery n
unfolding from_montgomery
from_mod n = mod-mul_mod n _ p
