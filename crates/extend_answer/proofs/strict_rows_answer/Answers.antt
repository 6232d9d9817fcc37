-- The rows before decode and are below p; the words from them on, and the rows, are left to decide.
use borrow.Author.Tests.{eqb-true}
use mathlib.Core.Path.{◌≡◌, refl, sym, ap, ◌∙◌}
use mathlib.Core.Bool.{true, false}
use Prim.Native.Nat.{◌-◌, ◌*◌, ◌%◌}
use native.Mathlib.Omega.{arith}
use lib.ListN.{length, take, drop}
use Rattle.std.specs.Prelude.{Result, Ok, Err, is_err}
use Rattle.std.proofs.lemmas.Result.{err_from_is_err_and}
use Rattle.field_base.specs.Words.{all_below}
use Rattle.field_base.proofs.Below.{holds_past}
use Rattle.isa.specs.declared.Instruction.{Instruction}
use Rattle.isa_decoding.specs.declared.Undecodable.{Undecodable}
use Rattle.table_rows.proofs.Rows.{rest_part}
use Rattle.column_entries.specs.Row.{instruction_of}
use Rattle.extend_answer.specs.Strict.{is_read}
use Rattle.extend_answer.proofs.Words.{words_passed, words_refused}
use Rattle.extend_answer.proofs.Undecodable.{row_fails, row_decodes, row_not_below, row_below, no_row_left}
use Rattle.extend_answer.proofs.strict_rows_answer.Goals as goal

unread : (d : Result Instruction Undecodable) → is_err d ≡ true → is_read d ≡ false
unread (Ok i) e = cc
unread (Err why) e = refl

read : (d : Result Instruction Undecodable) → is_err d ≡ false → is_read d ≡ true
read (Ok i) e = refl
read (Err why) e = cc

pub returns-then-is_err : goal.returns-then-is_err
returns-then-is_err c =
    let main = c.args.main.now in
    let row = c.loop-c.c in
    let at = row * 39 in
    let said = sym (c.instruction_from_row.ensures ∙ ap instruction_of c.row_at-row.ensures) in
    let under = words_passed (take (length main - at) (drop at main)) c.in_ok-words_answer.ensures in
    let unread_row = ap is_read said ∙ unread c.instruction_from_row.result (sym c.is_err.ensures.value ∙ c.if-is_err.true) in
    rw (c.loop-c.invariant.0 ∙ ap all_below (sym (rest_part main at)) ∙ under, c.loop-c.invariant.1 ∙ row_fails main row _ c.loop-c-test.true unread_row)

pub returns-in_err-words_answer-2 : goal.returns-in_err-words_answer-2
returns-in_err-words_answer-2 c =
    let main = c.args.main.now in
    let p = err_from_is_err_and c.from_residual-in_err-words_answer-2.result c.from_residual-in_err-words_answer-2.ensures.1 in
    let over = words_refused c.row_at-row.result.now c.in_err-words_answer-2.ensures in
    rw (p.1, p.2, c.loop-c.invariant.0 ∙ row_not_below main c.loop-c.c 0 (ap all_below (sym c.row_at-row.ensures) ∙ over.0)) (ap Err over.1)

pub loop-c-preserved : goal.loop-c-preserved
loop-c-preserved c =
    let main = c.args.main.now in
    let row = c.loop-c.c in
    let said = sym (c.instruction_from_row.ensures ∙ ap instruction_of c.row_at-row.ensures) in
    let under = words_passed c.row_at-row.result.now c.in_ok-words_answer-2.ensures in
    let read_row = ap is_read said ∙ read c.instruction_from_row.result (sym c.is_err.ensures.value ∙ c.if-is_err.false) in (
      c.loop-c.invariant.0 ∙ row_below main row 0 (ap all_below (sym c.row_at-row.ensures) ∙ under),
      c.loop-c.invariant.1 ∙ row_decodes main row _ c.loop-c-test.true read_row,
    )

pub returns : goal.returns
returns c =
    let main = c.args.main.now in
    let row = c.loop-c.c in
    let whole = eqb-true (length main % 39) 0 c.requires in
    rw (c.loop-c.invariant.0 ∙ holds_past main (row * 39) (omega (arith, whole)), c.loop-c.invariant.1 ∙ no_row_left main row _ c.loop-c-test.false)
