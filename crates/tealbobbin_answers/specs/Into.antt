-- An answer into a slice of n words: 1 if it has another length, then what the operation answers.
use Rattle.std.specs.Prelude.{cond, List, ℕ, eqb, length, Result, Ok, Err}
use Rattle.refusal.specs.Number.{answer_number_of}
use Rattle.refusal.specs.declared.Refusal.{Refusal}

-- the words of an answer, in the place of what `out` held
abbrev pub written : {A : Type 0} → (A → List ℕ) → List ℕ → Result A Refusal → List ℕ
written words out (Ok a) = words a
written words out (Err r) = out

abbrev pub number_into : {A : Type 0} → ℕ → List ℕ → Result A Refusal → ℕ
number_into n out answer = cond (eqb (length out) n) (answer_number_of answer) 1

abbrev pub into : {A : Type 0} → ℕ → (A → List ℕ) → List ℕ → Result A Refusal → List ℕ
into n words out answer = cond (eqb (length out) n) (written words out answer) out
