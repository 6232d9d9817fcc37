-- The numbers 0, 1, 2, ..
use Rattle.std.specs.Prelude.{List, [], ◌∷◌, ℕ, zero, suc}

abbrev pub from : ℕ → ℕ → List ℕ
from i zero = []
from i (suc n) = i ∷ from (suc i) n

-- those below n
abbrev pub up_to : ℕ → List ℕ
up_to n = from 0 n
