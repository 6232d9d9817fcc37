-- The first byte says the form.
use mathlib.Core.Path.{◌≡◌, sym, ◌∙◌}
use mathlib.Core.List.{List}
use Prim.Native.Nat.{ℕ, ◌≤◌}
use native.Mathlib.Omega.{arith}
use lib.Dec.{lit<}
use lib.ListN.{length}
use Rattle.field_montgomery.specs.declared.Form.{Form}
use Rattle.field_montgomery.specs.declared.Form.TheVariants.{Plain, Montgomery}
use Rattle.field_montgomery.proofs.Many.{length-plain}
use Rattle.batch_commands.specs.Format.{ROW}
use Rattle.batch_commands.specs.Form.{row_command}
use Rattle.batch_reader.specs.Commands.{contents, form_of}
use Rattle.batch_reader.specs.Reading.{reading, commands_of}
use Rattle.batch_reader.specs.Answers.{brought}
use Rattle.batch_reader.proofs.Sections.{rows_there, plain_there, montgomery_there}
use Rattle.batch_reader.proofs.Rows.{rows_are}
use Rattle.batch_reader.proofs.unchecked.put_rows.Goals as goal

room : (batch slice : List ℕ) (form : Form) → form_of (commands_of (reading batch)) ≡ form → length (brought ROW batch) ≤ length slice → length (contents (row_command form) (commands_of (reading batch))) ≤ length slice
room batch slice form e h = rw (length-plain form (contents (row_command form) (commands_of (reading batch)))) at (rw (rows_are batch form e) at h)

pub bounds-batch-at : goal.bounds-batch-at
bounds-batch-at c = let n = rows_there c.args.batch.now c.requires.batch_value c.args.at c.requires.at_value in omega arith

pub put_section-requires : goal.put_section-requires
put_section-requires c =
    let is_montgomery : form_of (commands_of (reading c.args.batch.now)) ≡ Montgomery = montgomery_there c.args.batch.now c.requires.batch_value c.args.at c.requires.at_value (c.if-batch-at.true ∙ c.from.ensures) in
    record {
      batch_value = c.requires.batch_value;
      wanted_nonzero = (lit< tt, rw is_montgomery (λ z. omega arith));
      at_value = c.requires.at_value;
      batch_in_bounds = room c.args.batch.now c.args.slice.now Montgomery is_montgomery c.requires.batch_in_bounds;
    }

pub put_section-requires-else-batch-at : goal.put_section-requires-else-batch-at
put_section-requires-else-batch-at c =
    let is_plain : form_of (commands_of (reading c.args.batch.now)) ≡ Plain = plain_there c.args.batch.now c.requires.batch_value c.args.at c.requires.at_value (λ e. c.if-batch-at.false (e ∙ sym c.from.ensures)) in
    record {
      batch_value = c.requires.batch_value;
      wanted_nonzero = (lit< tt, rw is_plain (λ z. omega arith));
      at_value = c.requires.at_value;
      batch_in_bounds = room c.args.batch.now c.args.slice.now Plain is_plain c.requires.batch_in_bounds;
    }

pub returns-then-batch-at : goal.returns-then-batch-at
returns-then-batch-at c =
    let is_montgomery : form_of (commands_of (reading c.args.batch.now)) ≡ Montgomery = montgomery_there c.args.batch.now c.requires.batch_value c.args.at c.requires.at_value (c.if-batch-at.true ∙ c.from.ensures) in
    record { value = c.put_section.ensures.value; slice_after = rw (rows_are c.args.batch.now Montgomery is_montgomery) c.put_section.ensures.slice_after }

pub returns-else-batch-at : goal.returns-else-batch-at
returns-else-batch-at c =
    let is_plain : form_of (commands_of (reading c.args.batch.now)) ≡ Plain = plain_there c.args.batch.now c.requires.batch_value c.args.at c.requires.at_value (λ e. c.if-batch-at.false (e ∙ sym c.from.ensures)) in
    record { value = c.put_section-else-batch-at.ensures.value; slice_after = rw (rows_are c.args.batch.now Plain is_plain) c.put_section-else-batch-at.ensures.slice_after }
