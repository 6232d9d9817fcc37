-- The head decides on 7 and 8, then the judge.
use mathlib.Core.Path.{◌≡◌, sym, ◌∙◌}
use mathlib.Core.Bool.{false}
use lib.Dec.{eqb}
use lib.ListN.{drop}
use borrow.Author.Rules.{rules}
use Rattle.std.proofs.lemmas.Result.{err_from_is_err_and}
use Rattle.batch_commands.specs.Format.{END}
use Rattle.batch_commands.specs.Code.{byte_of}
use Rattle.batch_reader.proofs.Faults.{refused_step, step_there}
use Rattle.batch_reader.proofs.step.Goals as goal

pub returns-in_err-command-clause-value : goal.returns-in_err-command-clause-value
returns-in_err-command-clause-value c =
    let p = err_from_is_err_and c.from_residual.result c.from_residual.ensures.1 in
    let args = c.args in
    rw (p.1, p.2) (refused_step args.seen.now (drop args.opener.at args.opener.batch.now) _ c.in_err-command.ensures.value)

pub returns-in_err-judge-clause-value : goal.returns-in_err-judge-clause-value
returns-in_err-judge-clause-value c =
    let p = err_from_is_err_and c.from_residual-in_err-judge.result c.from_residual-in_err-judge.ensures.1 in
    let command = c.in_ok-command.ensures in
    rw (p.1, p.2) (sym (step_there c.args.seen.now c.args.opener.batch.now c.args.opener.at _ _ command.value command.rest (sym c.in_err-judge.was ∙ c.judge.ensures)))

pub returns-in-End-clause-value : goal.returns-in-End-clause-value
returns-in-End-clause-value c =
    let command = c.in_ok-command.ensures in
    rw (step_there c.args.seen.now c.args.opener.batch.now c.args.opener.at _ _ command.value command.rest (sym c.in_ok-judge.was ∙ c.judge.ensures), c.in-End.is)

pub returns-in_default-clause-value : goal.returns-in_default-clause-value
returns-in_default-clause-value c =
    let command = c.in_ok-command.ensures in
    let not-End = c.in_default.not-End in
    let more : eqb (byte_of c.in_ok-command.command.code) END ≡ false = search rules in
    rw (step_there c.args.seen.now c.args.opener.batch.now c.args.opener.at _ _ command.value command.rest (sym c.in_ok-judge.was ∙ c.judge.ensures), more)
