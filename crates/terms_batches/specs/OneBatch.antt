-- "Equal contents then have equal bytes", and from Three on "One batch per content then holds within each form": two batches that both open, with equal counts (k among them), equal slices up to
-- the counts, equal sampled and digest, and the same row command, are the same.
use Rattle.std.specs.Prelude.{◌≡◌, List, ℕ, Ok}
use Rattle.batch_commands.specs.Form.{row_command, other_form}
use Rattle.batch_reader.specs.declared.Counts.{Counts}
use Rattle.batch_reader.specs.Commands.{count}
use Rattle.batch_reader.specs.Reading.{reading, commands_of}
use Rattle.batch_writer.specs.Contents.{Contents}
use Rattle.terms_batches.specs.Opening.{Bytes, opened, slices_after, up_to, row_form}

abbrev pub OneBatch : Type 0
OneBatch =
    (first second : List ℕ) → Bytes first → Bytes second
    → (lent others : Contents) (counts : Counts)
    → opened first lent ≡ Ok counts → opened second others ≡ Ok counts
    → up_to counts (slices_after first lent) ≡ up_to counts (slices_after second others)
    → row_form first ≡ row_form second
    → first ≡ second

-- "A batch uses 02 or 0A throughout": where it opens, all its rows have its row command, and none has the other
abbrev pub OneForm : Type 0
OneForm =
    (batch : List ℕ) (lent : Contents) (counts : Counts) → opened batch lent ≡ Ok counts
    → let commands = commands_of (reading batch) in
    (count (row_command (row_form batch)) commands ≡ counts.rows) × (count (row_command (other_form (row_form batch))) commands ≡ 0)
