-- A step of the code: the tests of the table's own words, 2 and then 11.
use Rattle.std.specs.Prelude.{Bool, List, [], ◌∷◌, ℕ, Result}
use Rattle.refusal.specs.Tests.{first}
use Rattle.extend_answer.specs.Answer.{words_test}
use Rattle.extend_answer.specs.Strict.{decoding_test}
use Rattle.refusal.specs.declared.Refusal.{Refusal}

abbrev pub rows_answer : Bool → List ℕ → Result (Unit {0}) Refusal
rows_answer strict main = first (words_test (main ∷ []) ∷ decoding_test strict main ∷ [])
