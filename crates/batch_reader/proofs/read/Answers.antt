-- Each step is what the definition takes there.
use mathlib.Core.Path.{◌≡◌, sym, ap, ◌∙◌}
use Prim.Native.Nat.{◌+◌, ◌≤◌}
use native.Mathlib.Omega.{arith}
use lib.ListN.{length, drop}
use Rattle.std.specs.Prelude.{Some, Ok, option_map}
use Rattle.std.proofs.lemmas.Result.{err_from_is_err_and}
use Rattle.batch_commands.specs.Format.{width}
use Rattle.batch_commands.specs.Code.{byte_of}
use Rattle.batch_reader.specs.Steps.{step_in, step_of}
use Rattle.batch_reader.proofs.Reached.{nothing_read, refused_there, ended_there, whole, came_few, reached_next}
use Rattle.batch_reader.proofs.read.Goals as goal

pub loop-command-init : goal.loop-command-init
loop-command-init c =
    let new = c.new-opener.ensures in
    (ap (λ b. b.now) new.0, rw (new.1, c.seen_nothing-seen.ensures) (nothing_read c.args.batch.now))

pub returns-in_err-command : goal.returns-in_err-command
returns-in_err-command c =
    let p = err_from_is_err_and c.from_residual.result c.from_residual.ensures.1 in
    let here = c.loop-command.invariant in
    rw (p.1, p.2) (refused_there c.args.batch.now c.loop-command.seen c.loop-command.opener.at here.1 _ (rw here.0 at (sym c.step.ensures.value ∙ ap step_in c.in_err-command.was)))

pub see-requires : goal.see-requires
see-requires c =
    let batch = c.args.batch.now in
    let seen = c.loop-command.seen in
    let at = c.loop-command.opener.at in
    let here = c.loop-command.invariant in
    let code = byte_of c.in-Some.command.code in
    let next : step_of seen (drop at batch) ≡ Ok (Some code) = rw here.0 at (sym c.step.ensures.value ∙ ap step_in c.in_ok-command.was ∙ ap (λ o. Ok (option_map (λ command. byte_of command.code) o)) c.in-Some.is) in
    came_few batch seen at here.1 code next

pub past-opener-requires : goal.past-opener-requires
past-opener-requires c =
    let batch = c.args.batch.now in
    let seen = c.loop-command.seen in
    let at = c.loop-command.opener.at in
    let here = c.loop-command.invariant in
    let code = byte_of c.in-Some.command.code in
    let next : step_of seen (drop at batch) ≡ Ok (Some code) = rw here.0 at (sym c.step.ensures.value ∙ ap step_in c.in_ok-command.was ∙ ap (λ o. Ok (option_map (λ command. byte_of command.code) o)) c.in-Some.is) in
    rw here.0 (whole batch seen at here.1 code next)

pub loop-command-smaller : goal.loop-command-smaller
loop-command-smaller c =
    let batch = c.args.batch.now in
    let seen = c.loop-command.seen in
    let at = c.loop-command.opener.at in
    let here = c.loop-command.invariant in
    let code = byte_of c.in-Some.command.code in
    let next : step_of seen (drop at batch) ≡ Ok (Some code) = rw here.0 at (sym c.step.ensures.value ∙ ap step_in c.in_ok-command.was ∙ ap (λ o. Ok (option_map (λ command. byte_of command.code) o)) c.in-Some.is) in
    let inside : at + 1 + width code ≤ length batch = whole batch seen at here.1 code next in
    omega (arith, c.past-opener.ensures.1)

pub loop-command-preserved : goal.loop-command-preserved
loop-command-preserved c =
    let batch = c.args.batch.now in
    let seen = c.loop-command.seen in
    let at = c.loop-command.opener.at in
    let here = c.loop-command.invariant in
    let code = byte_of c.in-Some.command.code in
    let next : step_of seen (drop at batch) ≡ Ok (Some code) = rw here.0 at (sym c.step.ensures.value ∙ ap step_in c.in_ok-command.was ∙ ap (λ o. Ok (option_map (λ command. byte_of command.code) o)) c.in-Some.is) in
    let past = c.past-opener.ensures in
    let rest = rw c.in-Some.is at c.in_ok-command.ensures.rest in
    (ap (λ b. b.now) past.0 ∙ here.0, rw (past.1, c.see.ensures, rest, here.0) (reached_next batch seen at here.1 code next))

pub returns : goal.returns
returns c =
    let here = c.loop-command.invariant in
    ap Ok c.counts_in.ensures ∙ ended_there c.args.batch.now c.loop-command.seen c.loop-command.opener.at here.1 (rw here.0 at (sym c.step.ensures.value ∙ ap step_in c.in_ok-command.was ∙ ap (λ o. Ok (option_map (λ command. byte_of command.code) o)) c.in_default.is))
