-- Kind by kind: there is room for each, and the batch begins with the bytes so far.
use mathlib.Core.Path.{◌≡◌, refl, sym, ap, ◌∙◌}
use Prim.Native.Nat.{◌+◌, ◌/◌}
use native.Mathlib.Nat.{div-one}
use native.Mathlib.Omega.{arith}
use mathlib.Core.List.{◌∷◌}
use lib.ListN.{length}
use Rattle.batch_words.proofs.Writing.{length-little_endian}
use Rattle.batch_commands.specs.Format.{TRACE-ROWS, OP-STACK, RAM, JUMP-STACK, SAMPLED, DIGEST, INPUT, OUTPUT}
use Rattle.field_montgomery.specs.Form.{in_form}
use Rattle.batch_commands.specs.Form.{row_command}
use Rattle.batch_commands.proofs.Tables.{row_width}
use Rattle.batch_sorted.specs.Sorted.{sorted}
use Rattle.batch_sorted.proofs.Lengths.{length-sorted}
use Rattle.batch_words.specs.Words.{little_endian}
use Rattle.batch_commands.specs.Format.{laid_out}
use Rattle.batch_writer.specs.Layout.{commands_of_height, commands_with}
use Rattle.batch_writer.specs.Contents.{contents_in}
use Rattle.batch_writer.proofs.Parts.{in_parts}
use Rattle.batch_writer.proofs.Lengths.{right}
use Rattle.batch_writer.proofs.Laying.{length-height, length-laid_rows}
use Rattle.batch_writer.proofs.Reaching.{nothing, on, on_kind, ends}
use Rattle.batch_writer.proofs.unchecked.put_batch.Goals as goal

pub returns : goal.returns
returns c =
    let lists = c.args.lists in
    let form = c.args.form in
    let k = c.args.log2_height in
    let given = contents_in lists k in
    let fits = right (contents_in c.args.lists c.args.log2_height) c.args.form (length c.args.batch.now) c.requires.batch_value in
    let rows = rw (c.row_command.ensures, row_width c.args.form) at c.put_commands-at-5.ensures.value in
    let whole : length c.put_differences-at-3.new.batch ≡ c.put_differences-at-3.result + 1 = omega arith in
    let by01 = on (nothing c.args.batch.now) (TRACE-ROWS ∷ little_endian 4 (length lists.trace.now / 39)) c.put_trace_rows.new.batch 5 (omega (arith, length-little_endian 4 (length lists.trace.now / 39))) c.put_trace_rows.ensures in
    let by0_b = on by01 (laid_out (commands_of_height k)) c.put_height-at.new.batch c.put_height-at.result (c.put_height-at.ensures.value ∙ ap (λ n. 5 + n) (sym (length-height k))) c.put_height-at.ensures.batch_after in
    let by07 = on_kind by0_b 1 (length lists.digest.now / 5) DIGEST lists.digest.now c.put_commands-at.new.batch c.put_commands-at.result (omega arith) refl (omega arith) c.put_commands-at.ensures.value c.put_commands-at.ensures.batch_after in
    let by08 = on_kind by07 (length lists.input.now) (length lists.input.now / 1) INPUT lists.input.now c.put_commands-at-2.new.batch c.put_commands-at-2.result (div-one (length lists.input.now)) refl (omega arith) c.put_commands-at-2.ensures.value c.put_commands-at-2.ensures.batch_after in
    let by09 = on_kind by08 (length lists.output.now) (length lists.output.now / 1) OUTPUT lists.output.now c.put_commands-at-3.new.batch c.put_commands-at-3.result (div-one (length lists.output.now)) refl (omega arith) c.put_commands-at-3.ensures.value c.put_commands-at-3.ensures.batch_after in
    let by06 = on_kind by09 1 (length lists.sampled.now / 177) SAMPLED lists.sampled.now c.put_commands-at-4.new.batch c.put_commands-at-4.result (omega arith) refl (omega arith) c.put_commands-at-4.ensures.value c.put_commands-at-4.ensures.batch_after in
    let n = length lists.trace.now / 39 in
    let wrote = rw (c.row_command.ensures, row_width form) at c.put_commands-at-5.ensures.batch_after in
    let by02 = on by06 (laid_out (commands_with n (row_command form) (in_form form lists.trace.now))) c.put_commands-at-5.new.batch c.put_commands-at-5.result (rows ∙ ap (◌+◌ c.put_commands-at-4.result) (sym (length-laid_rows form n lists.trace.now (omega arith)))) wrote in
    let by03 = on_kind by02 (length lists.op_stack.now) (length lists.op_stack.now) OP-STACK (sorted lists.op_stack.now) c.put_differences-at.new.batch c.put_differences-at.result refl refl (omega (arith, length-sorted lists.op_stack.now)) c.put_differences-at.ensures.value c.put_differences-at.ensures.batch_after in
    let by04 = on_kind by03 (length lists.ram.now) (length lists.ram.now) RAM (sorted lists.ram.now) c.put_differences-at-2.new.batch c.put_differences-at-2.result refl refl (omega (arith, length-sorted lists.ram.now)) c.put_differences-at-2.ensures.value c.put_differences-at-2.ensures.batch_after in
    let by05 = on_kind by04 (length lists.jump_stack.now) (length lists.jump_stack.now) JUMP-STACK (sorted lists.jump_stack.now) c.put_differences-at-3.new.batch c.put_differences-at-3.result refl refl (omega (arith, length-sorted lists.jump_stack.now)) c.put_differences-at-3.ensures.value c.put_differences-at-3.ensures.batch_after in
    rw c.from.ensures (ends by05 0 whole ∙ sym (in_parts form given))
