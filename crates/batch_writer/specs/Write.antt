-- Write: the answer, and what the lent batch holds then. "The writer is told which form to write."
use Rattle.std.specs.Prelude.{Bool, not, ◌&&◌, List, [], ◌∷◌, ℕ, eqb, leb, length, Result}
use Rattle.field_base.specs.Words.{all_below}
use Rattle.refusal.specs.Tests.{on_done, Tests, ◌when◌, ◌unless◌, first}
use Rattle.refusal.specs.declared.Refusal.TheVariants.{SliceLength, RowCount, HeightOutOfRange, WordNotBelowP}
use Rattle.air.specs.ChallengeId.{SAMPLED-WORDS, DIGEST-WORDS}
use Rattle.table_rows.specs.Rows.{whole_rows, rows}
use Rattle.batch_commands.specs.Format.{MAX-ROWS, MAX-DIFFERENCES, MAX-WORDS}
use Rattle.batch_commands.specs.Fault.{wrong_height}
use Rattle.field_montgomery.specs.declared.Form.{Form}
use Rattle.batch_writer.specs.Contents.{Contents}
use Rattle.batch_writer.specs.Layout.{batch_of}
use Rattle.refusal.specs.declared.Refusal.{Refusal}

-- "a slice of wrong length (a list past its count, an output not of the batch's length)"
unfoldable pub right_lengths : Form → Contents → ℕ → Bool
unfolding batch_of
right_lengths form contents batch =
    whole_rows contents.trace
    && leb (length contents.op_stack) MAX-DIFFERENCES
    && leb (length contents.ram) MAX-DIFFERENCES
    && leb (length contents.jump_stack) MAX-DIFFERENCES
    && eqb (length contents.sampled) SAMPLED-WORDS
    && eqb (length contents.digest) DIGEST-WORDS
    && leb (length contents.input) MAX-WORDS
    && leb (length contents.output) MAX-WORDS
    && eqb batch (length (batch_of form contents))

abbrev pub all_words_below : Contents → Bool
all_words_below contents =
    all_below contents.trace
    && all_below contents.op_stack
    && all_below contents.ram
    && all_below contents.jump_stack
    && all_below contents.sampled
    && all_below contents.digest
    && all_below contents.input
    && all_below contents.output

-- "in the writer, where k 0 means no 0B"
abbrev pub refused_height : ℕ → ℕ → Bool
refused_height rows k = not (eqb k 0) && wrong_height rows k

-- "1 for a slice of wrong length .., then 3, then 2", where the lent batch has `batch` bytes; 12 "right after 3"
abbrev pub write_tests : Form → Contents → ℕ → Tests
write_tests form contents batch =
    (SliceLength unless right_lengths form contents batch)
    ∷ (RowCount unless leb 1 (rows contents.trace) && leb (rows contents.trace) MAX-ROWS)
    ∷ (HeightOutOfRange when refused_height (rows contents.trace) contents.log2_height)
    ∷ (WordNotBelowP unless all_words_below contents)
    ∷ []

unfoldable pub write_answer : Form → Contents → ℕ → Result (Unit {0}) Refusal
unfolding right_lengths
write_answer form contents batch = first (write_tests form contents batch)

-- what the lent batch holds then
unfoldable pub write_batch : Form → Contents → List ℕ → List ℕ
unfolding write_answer batch_of
write_batch form contents batch = on_done (write_answer form contents (length batch)) (batch_of form contents) batch
