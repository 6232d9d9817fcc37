-- What a check that ends with a verdict passed.
use mathlib.Core.Path.{◌≡◌}
use mathlib.Core.Bool.{true, false, ◌&&◌}
use mathlib.Core.List.{List}
use Prim.Native.Nat.{ℕ, ◌*◌}
use native.Mathlib.Omega.{arith}
use lib.ListN.{length}
use borrow.Author.Tests.{not-false}
use Rattle.refusal.specs.Tests.{NoneHolds}
use Rattle.refusal.specs.declared.Refusal.{Refusal}
use Rattle.refusal.proofs.First.{past_all}
use Rattle.field_base.specs.Words.{all_below}
use Rattle.field_base.proofs.Below.{and-true}
use Rattle.table_rows.specs.Rows.{rows}
use Rattle.column_entries.specs.Denominators.{zero_denominator}
use Rattle.extend_answer.specs.Answer.{right_lengths}
use Rattle.extend_answer.proofs.Accepted.{lengths}
use Rattle.check_relations.specs.First.{verdict}
use Rattle.check_columns.specs.Check.{check_tests, check_answer}
use Rattle.std.specs.Prelude.{Result, Ok, Err, Option}
use Rattle.check_relations.specs.declared.Place.{Place}

pub record Passed (main challenges offered : List ℕ) : Type 0 where
  pub offered_length : length offered ≡ rows main * 33
  pub offered_below : all_below offered ≡ true
  pub no_zero : zero_denominator main challenges ≡ false

module _ (main challenges offered : List ℕ) {v : Option Place} (checked : check_answer main challenges offered ≡ Ok v) where
  tests : NoneHolds (check_tests main challenges offered) × (let here : Result (Option Place) Refusal = Ok (verdict challenges main offered) in here ≡ Ok v)
  unfolding check_answer
  tests = past_all Err (check_tests main challenges offered) (Ok (verdict challenges main offered)) (Ok v) (λ r e. let z : ◌≡◌ {A = ℕ} 0 1 = cc in omega arith) checked

  pub passed : Passed main challenges offered
  passed =
      let none = tests.0 in
      record {
        offered_length = (lengths main challenges offered (not-false (right_lengths main challenges offered) none.0)).aux_length;
        offered_below = (and-true (all_below main && all_below challenges) (all_below offered) (not-false _ none.1.1.0)).1;
        no_zero = none.1.1.1.0;
      }

  pub verdict_is : verdict challenges main offered ≡ v
  verdict_is = cc tests.1
