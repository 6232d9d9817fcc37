-- The weights below i are the challenges.
use Rattle.std.proofs.Common.{◌≡◌, length, map, take}
use Rattle.air.specs.declared.ChallengeId.{ChallengeId}
use Rattle.challenges.specs.Derived.{challenge_at}
use Rattle.column_weights.proofs.unchecked.weights.Given as goal

abbrev pub invariant-loop-i : goal.invariant-loop-i
invariant-loop-i g l =
    (length l.weights ≡ g.row.N) × (take l.i l.weights ≡ map (λ (id : ChallengeId). challenge_at l.challenges id.0) (take l.i l.ids))
