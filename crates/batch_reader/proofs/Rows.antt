-- What the rows bring, by their form.
use mathlib.Core.Path.{◌≡◌, sym, ap, ◌∙◌}
use mathlib.Core.List.{List}
use Prim.Native.Nat.{ℕ, ◌*◌, ◌/◌, ◌≤◌}
use lib.ListN.{length}
use Rattle.field_montgomery.specs.declared.Form.{Form}
use Rattle.field_montgomery.specs.Form.{plain}
use Rattle.field_montgomery.proofs.Many.{length-plain}
use Rattle.batch_commands.specs.Format.{ROW, width, Command}
use Rattle.batch_commands.specs.Form.{row_command}
use Rattle.batch_commands.specs.Fault.{rows_in}
use Rattle.batch_commands.proofs.Tables.{row_known, row_width, row_limit}
use Rattle.batch_reader.specs.Commands.{counts, contents, form_of, slice_from, announced}
use Rattle.batch_reader.specs.Reading.{reading, commands_of}
use Rattle.batch_reader.specs.Answers.{brought}
use Rattle.batch_reader.proofs.Commands.{length-contents}
use Rattle.batch_reader.proofs.Forms.{rows_counted}
use Rattle.batch_reader.proofs.Bounds.{Bounded}

pub length-rows : (ks : List Command) → length (slice_from ROW ks) ≡ rows_in (counts ks) * (width ROW / 8)
length-rows ks =
    let form = form_of ks in
    length-plain form (contents (row_command form) ks) ∙ length-contents (row_command form) ks ∙ rw (row_width form) (ap (λ n. n * 39) (sym (rows_counted ks)))

pub few_rows : (ks : List Command) → Bounded ks → rows_in (counts ks) ≤ announced ks
few_rows ks b = rw (rows_counted ks) (rw (row_limit (announced ks) (form_of ks)) at (b.within (row_command (form_of ks)) (row_known (form_of ks))))

pub rows_are : (batch : List ℕ) (form : Form) → form_of (commands_of (reading batch)) ≡ form → brought ROW batch ≡ plain form (contents (row_command form) (commands_of (reading batch)))
unfolding brought
rows_are batch form e = rw e
