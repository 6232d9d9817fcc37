-- The columns and the challenges count from 0: both sides compute to the same list.
use mathlib.Core.Path.{refl}
use Rattle.air.specs.MainColumn as Main
use Rattle.air.specs.AuxColumn as Aux
use Rattle.air.specs.ChallengeId as Challenge

pub main : Main.Counted
main = refl

pub aux : Aux.Counted
aux = refl

pub challenge : Challenge.Counted
challenge = refl
