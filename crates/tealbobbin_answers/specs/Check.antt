-- The check's answer into a slice of n words.
use Rattle.std.specs.Prelude.{List, [], ◌∷◌, ℕ, take, Result, Option, Some, None}
use Rattle.refusal.specs.declared.Refusal.{Refusal}
use Rattle.check_relations.specs.declared.Place.{Place}
use Rattle.tealbobbin_answers.specs.Into.{written, number_into, into}

-- 1, or 0 with the row and the column of the first relation that fails
abbrev pub verdict_words : Option Place → List ℕ
verdict_words None = 1 ∷ 0 ∷ 0 ∷ []
verdict_words (Some found) = 0 ∷ found.row ∷ found.column.0 ∷ []

-- the first n of these words
abbrev pub check_words : ℕ → Option Place → List ℕ
check_words n verdict = take n (verdict_words verdict)

-- in the place of what `out` held
abbrev pub check_written : ℕ → List ℕ → Result (Option Place) Refusal → List ℕ
check_written n out answer = written (check_words n) out answer

abbrev pub check_number_into : ℕ → List ℕ → Result (Option Place) Refusal → ℕ
check_number_into n out answer = number_into n out answer

abbrev pub check_into : ℕ → List ℕ → Result (Option Place) Refusal → List ℕ
check_into n out answer = into n (check_words n) out answer
