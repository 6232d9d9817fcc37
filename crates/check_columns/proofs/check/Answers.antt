-- The tests in order.
use borrow.Author.Tests.{eq-eqb, ne_eqb, lt-ltb, le-ltb}
use mathlib.Core.Bool.{true, or-true}
use mathlib.Core.List.{List, [], ◌∷◌}
use mathlib.Core.Logic.{◌≢◌}
use mathlib.Core.Path.{◌≡◌, sym, ap, ◌∙◌}
use Prim.Native.Nat.{ℕ, ◌≤◌}
use Rattle.std.specs.Prelude.{Ok, Err}
use Rattle.std.proofs.lemmas.Result.{err_from_is_err_and}
use Rattle.refusal.specs.Tests.{first_or}
use Rattle.refusal.proofs.Answers.{is_long_lem}
use Rattle.field_base.specs.Words.{all_below}
use Rattle.table_rows.specs.Rows.{rows}
use Rattle.column_weights.specs.Ready.{ReadyTable}
use Rattle.extend_answer.specs.Answer.{right_lengths, words_test, denominator_test}
use Rattle.extend_answer.proofs.Accepted.{lengths}
use Rattle.extend_answer.proofs.Words.{words_passed, words_refused}
use Rattle.check_relations.specs.First.{verdict}
use Rattle.check_columns.specs.Check.{check_answer}
use Rattle.check_columns.proofs.check.Goals as goal
use Rattle.check_columns.proofs.check.Goals.{then-rows-eq0-via-then-rows-eq0, then-rows-eq0-via-else-rows-eq0+then-rows-gt-MAX_LEN}

module _ (main challenges offered : List ℕ) (fits : right_lengths main challenges offered ≡ true) where
  -- the answer past the tests of the lengths and of the rows
  past_rows : rows main ≢ 0 → rows main ≤ 4194304
      → check_answer main challenges offered ≡ first_or Err (words_test (main ∷ challenges ∷ offered ∷ []) ∷ denominator_test main challenges ∷ []) (Ok (verdict challenges main offered))
  unfolding check_answer
  past_rows some short = let n = rows main in rw (fits, ne_eqb n 0 some, is_long_lem n ∙ le-ltb 4194304 n short)

  ready : all_below main ≡ true → all_below challenges ≡ true → ReadyTable challenges main
  ready a b = record { whole = (lengths main challenges offered fits).challenges_length; challenges_below = b; main_below = a }

pub returns-then-not-right_lengths : goal.returns-then-not-right_lengths
unfolding check_answer
returns-then-not-right_lengths c = rw (sym c.right_lengths.ensures ∙ c.if-not-right_lengths.true)

pub returns-then-rows-eq0 : goal.returns-then-rows-eq0
unfolding check_answer
returns-then-rows-eq0 c =
    let n = rows c.args.main.now in
    let fits = sym c.right_lengths.ensures ∙ c.if-not-right_lengths.false in
    elim c.then-rows-eq0.branch [
      | then-rows-eq0-via-then-rows-eq0 w ↦ rw (fits, eq-eqb n 0 w.if-rows-eq0.true)
      | then-rows-eq0-via-else-rows-eq0+then-rows-gt-MAX_LEN w ↦ rw (fits, is_long_lem n ∙ lt-ltb 4194304 n w.if-rows-gt-MAX_LEN.true, or-true)
    ]

pub returns-in_err-words_answer : goal.returns-in_err-words_answer
returns-in_err-words_answer c =
    let args = c.args in
    let fits = sym c.right_lengths.ensures ∙ c.if-not-right_lengths.false in
    let past = past_rows args.main.now args.challenges.now args.offered.now fits c.if-rows-eq0.false c.if-rows-gt-MAX_LEN.false in
    let p = err_from_is_err_and c.from_residual.result c.from_residual.ensures.1 in
    let over = words_refused args.main.now c.in_err-words_answer.ensures in
    rw (p.1, p.2) (sym (past ∙ rw over.0 (ap Err (sym over.1))))

pub returns-in_err-words_answer-2 : goal.returns-in_err-words_answer-2
returns-in_err-words_answer-2 c =
    let args = c.args in
    let fits = sym c.right_lengths.ensures ∙ c.if-not-right_lengths.false in
    let past = past_rows args.main.now args.challenges.now args.offered.now fits c.if-rows-eq0.false c.if-rows-gt-MAX_LEN.false in
    let p = err_from_is_err_and c.from_residual-in_err-words_answer-2.result c.from_residual-in_err-words_answer-2.ensures.1 in
    let over = words_refused args.challenges.now c.in_err-words_answer-2.ensures in
    rw (p.1, p.2) (sym (past ∙ rw (words_passed args.main.now c.in_ok-words_answer.ensures, over.0) (ap Err (sym over.1))))

pub returns-in_err-words_answer-3 : goal.returns-in_err-words_answer-3
returns-in_err-words_answer-3 c =
    let args = c.args in
    let fits = sym c.right_lengths.ensures ∙ c.if-not-right_lengths.false in
    let past = past_rows args.main.now args.challenges.now args.offered.now fits c.if-rows-eq0.false c.if-rows-gt-MAX_LEN.false in
    let p = err_from_is_err_and c.from_residual-in_err-words_answer-3.result c.from_residual-in_err-words_answer-3.ensures.1 in
    let over = words_refused args.offered.now c.in_err-words_answer-3.ensures in
    rw (p.1, p.2)
    (sym (past ∙ rw (words_passed args.main.now c.in_ok-words_answer.ensures, words_passed args.challenges.now c.in_ok-words_answer-2.ensures, over.0) (ap Err (sym over.1))))

pub new-table-requires : goal.new-table-requires
new-table-requires c =
    let args = c.args in
    let fits = sym c.right_lengths.ensures ∙ c.if-not-right_lengths.false in
    record {
      whole = (lengths args.main.now args.challenges.now args.offered.now fits).whole;
      ready = ready args.main.now args.challenges.now args.offered.now fits (words_passed args.main.now c.in_ok-words_answer.ensures) (words_passed args.challenges.now c.in_ok-words_answer-2.ensures);
    }

pub returns-then-has_zero_denominator : goal.returns-then-has_zero_denominator
returns-then-has_zero_denominator c =
    let args = c.args in
    let fits = sym c.right_lengths.ensures ∙ c.if-not-right_lengths.false in
    let past = past_rows args.main.now args.challenges.now args.offered.now fits c.if-rows-eq0.false c.if-rows-gt-MAX_LEN.false in
    sym
    (past
    ∙ rw (
      words_passed args.main.now c.in_ok-words_answer.ensures,
      words_passed args.challenges.now c.in_ok-words_answer-2.ensures,
      words_passed args.offered.now c.in_ok-words_answer-3.ensures,
      sym (rw (c.new-table.ensures.main, c.new-table.ensures.challenges) at c.has_zero_denominator.ensures) ∙ c.if-has_zero_denominator.true,
    ))

pub first_failing-requires : goal.first_failing-requires
first_failing-requires c =
    let args = c.args in
    let fits = sym c.right_lengths.ensures ∙ c.if-not-right_lengths.false in
    record {
      offered_len = rw c.new-table.ensures.main (lengths args.main.now args.challenges.now args.offered.now fits).aux_length;
      offered_value = words_passed args.offered.now c.in_ok-words_answer-3.ensures;
    }

pub returns : goal.returns
returns c =
    let args = c.args in
    let fits = sym c.right_lengths.ensures ∙ c.if-not-right_lengths.false in
    let past = past_rows args.main.now args.challenges.now args.offered.now fits c.if-rows-eq0.false c.if-rows-gt-MAX_LEN.false in
    ap Ok (rw (c.new-table.ensures.main, c.new-table.ensures.challenges) at c.first_failing.ensures)
    ∙ sym
    (past
    ∙ rw (
      words_passed args.main.now c.in_ok-words_answer.ensures,
      words_passed args.challenges.now c.in_ok-words_answer-2.ensures,
      words_passed args.offered.now c.in_ok-words_answer-3.ensures,
      sym (rw (c.new-table.ensures.main, c.new-table.ensures.challenges) at c.has_zero_denominator.ensures) ∙ c.if-has_zero_denominator.false,
    ))
