-- What the check of offered columns answers. Document 02, Seven: "Lengths and words are refused as in extension, work and chunk apart; an offered word not
-- below p answers 2." "A zero denominator answers 6, in extension's order."
use Rattle.std.specs.Prelude.{List, [], ◌∷◌, ℕ, Result, Ok, Err, Option}
use Rattle.refusal.specs.Tests.{Tests, first_or}
use Rattle.column_entries.specs.Denominators.{zero_up_to}
use Rattle.extend_answer.specs.Answer.{lengths_test, rows_test, words_test, denominator_test}
use Rattle.check_relations.specs.First.{first_from, verdict}
use Rattle.refusal.specs.declared.Refusal.{Refusal}
use Rattle.check_relations.specs.declared.Place.{Place}

abbrev pub check_tests : (main challenges offered : List ℕ) → Tests
check_tests main challenges offered =
    lengths_test main challenges offered ∷ rows_test main ∷ words_test (main ∷ challenges ∷ offered ∷ []) ∷ denominator_test main challenges ∷ []

unfoldable pub check_answer : (main challenges offered : List ℕ) → Result (Option Place) Refusal
unfolding zero_up_to first_from
check_answer main challenges offered = first_or Err (check_tests main challenges offered) (Ok (verdict challenges main offered))
