-- The challenges and a table, once they are known to be whole and their words below p.
use Rattle.std.specs.Prelude.{◌≡◌, true, List, ℕ, length}
use Rattle.air.specs.ChallengeId.{RECORD-WORDS}
use Rattle.air.specs.MainColumn.{MAIN-WIDTH}
use Rattle.field_base.specs.Words.{all_below}

pub record ReadyTable (challenges main : List ℕ) : Type 0 where
  pub whole : length challenges ≡ RECORD-WORDS
  pub challenges_below : all_below challenges ≡ true
  pub main_below : all_below main ≡ true

-- the same of a window's two rows
abbrev pub Ready : (challenges prev curr : List ℕ) → Type 0
Ready challenges prev curr = ReadyTable challenges prev × ReadyTable challenges curr

-- of two rows that are lent
abbrev pub ReadyRows : (challenges prev curr : List ℕ) → Type 0
ReadyRows challenges prev curr = Ready challenges prev curr × ((length prev ≡ MAIN-WIDTH) × (length curr ≡ MAIN-WIDTH))
