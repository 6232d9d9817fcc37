-- Extension that ends with Done wrote its cells.
use mathlib.Core.Path.{◌≡◌}
use mathlib.Core.List.{List}
use Prim.Native.Nat.{ℕ}
use Rattle.extend_table.specs.Extended.{extended}
use Rattle.extend_answer.specs.Answer.{extend_answer}
use Rattle.extend.specs.Extend.{extend_aux}
use Rattle.refusal.specs.Number.{Done}

module _ (main challenges : List ℕ) (chunk : ℕ) (aux work : List ℕ) (done : extend_answer main challenges chunk aux work ≡ Done) where
  pub written : extend_aux main challenges chunk aux work ≡ extended main challenges
  unfolding extend_aux
  written = rw done
