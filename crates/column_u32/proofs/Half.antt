-- The constant is 1/2, computed.
use mathlib.Core.Path.{◌≡◌, refl}
use Rattle.algebra.specs.Modulus.{inverse, power}

pub one_half : inverse 2 ≡ 9223372034707292161
unfolding inverse power
one_half = refl
