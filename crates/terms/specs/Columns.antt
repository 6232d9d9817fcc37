-- A column's own indeterminate and its weights are sampled challenges, and no weight is the own indeterminate.
use Rattle.std.specs.Prelude.{◌≢◌, ◌<◌}
use Rattle.algebra.specs.Polynomial.{All}
use Rattle.air.specs.ChallengeId.{SAMPLE-COUNT}
use Rattle.column_entries.specs.Columns.{Column, indeterminate_of, weights_of}

-- so that a column's entries do not depend on its own indeterminate
pub record Sampled (c : Column) : Type 0 where
  pub own_sampled : indeterminate_of c < SAMPLE-COUNT
  pub weights_sampled : All (λ j. j < SAMPLE-COUNT) (weights_of c)
  pub weights_other : All (λ j. j ≢ indeterminate_of c) (weights_of c)

abbrev pub AllSampled : Type 0
AllSampled = (c : Column) → Sampled c
