-- "a writer that produces them": what it writes opens to what it was given, and what was opened is written again as it was.
use Rattle.std.specs.Prelude.{◌≡◌, true, List, ℕ, suc, ◌≤◌, ◌<◌, length, get_or, Ok}
use Rattle.refusal.specs.Number.{Done}
use Rattle.table_fill.specs.Fill.{count}
use Rattle.field_montgomery.specs.declared.Form.{Form}
use Rattle.batch_reader.specs.declared.Counts.{Counts}
use Rattle.batch.specs.Open.{right_lengths}
use Rattle.batch_sorted.specs.Sorted.{sorted}
use Rattle.batch_writer.specs.Contents.{Contents}
use Rattle.batch_writer.specs.Write.{write_answer, write_batch}
use Rattle.terms_batches.specs.Opening.{Bytes, opened, slices_after, up_to, counts_of, row_form}

-- each word stands equally often in both
abbrev pub SameBag : List ℕ → List ℕ → Type 0
SameBag ws vs = (word : ℕ) → count word ws ≡ count word vs

-- no word is below the one before it
abbrev pub NotDescending : List ℕ → Type 0
NotDescending ws = (i : ℕ) → suc i < length ws → get_or ws i 0 ≤ get_or ws (suc i) 0

-- a list sorted: the same bag, not descending
abbrev pub SortedList : Type 0
SortedList = (ws : List ℕ) → SameBag (sorted ws) ws × NotDescending (sorted ws)

-- with the three difference lists sorted; input and output words keep their order
abbrev pub with_sorted_lists : Contents → Contents
with_sorted_lists contents =
    record {
      trace = contents.trace;
      op_stack = sorted contents.op_stack;
      ram = sorted contents.ram;
      jump_stack = sorted contents.jump_stack;
      sampled = contents.sampled;
      digest = contents.digest;
      input = contents.input;
      output = contents.output;
      log2_height = contents.log2_height;
    }

-- slices that open takes
abbrev pub RightSlices : Contents → Type 0
RightSlices lent =
    right_lengths (length lent.trace) (length lent.op_stack) (length lent.ram) (length lent.jump_stack) (length lent.sampled)
    (length lent.digest) (length lent.input) (length lent.output)
    ≡ true

-- what is written opens, to these contents with each difference list sorted, in either form
abbrev pub WrittenOpens : Type 0
WrittenOpens =
    (form : Form) (contents : Contents) (batch : List ℕ) → write_answer form contents (length batch) ≡ Done
    → (lent : Contents) → RightSlices lent
    → let written = write_batch form contents batch in
    (opened written lent ≡ Ok (counts_of contents)) × (up_to (counts_of contents) (slices_after written lent) ≡ with_sorted_lists contents)

-- and its rows have the form that was asked for
abbrev pub WrittenForm : Type 0
WrittenForm = (form : Form) (contents : Contents) (batch : List ℕ) → write_answer form contents (length batch) ≡ Done → row_form (write_batch form contents batch) ≡ form

-- the contents of a batch that opens, its form, and a slice of its length: the batch is written
abbrev pub WrittenAgain : Type 0
WrittenAgain =
    (batch : List ℕ) → Bytes batch
    → (lent : Contents) (counts : Counts) → opened batch lent ≡ Ok counts
    → (slice : List ℕ) → length slice ≡ length batch
    → let contents = up_to counts (slices_after batch lent) in
    (write_answer (row_form batch) contents (length slice) ≡ Done) × (write_batch (row_form batch) contents slice ≡ batch)
