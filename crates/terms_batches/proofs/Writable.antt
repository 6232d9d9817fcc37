-- Contents that the writer takes.
use mathlib.Core.Path.{◌≡◌, sym}
use mathlib.Core.Bool.{Bool, true, false, ◌&&◌}
use mathlib.Core.List.{List, [], ◌∷◌}
use Prim.Native.Nat.{ℕ, ◌≤◌}
use lib.Dec.{leb}
use borrow.Author.Tests.{leb-true, not-false}
use Rattle.std.proofs.lemmas.Bool.{and_parts}
use Rattle.field_base.specs.Words.{all_below}
use Rattle.refusal.proofs.First.{done_exactly}
use Rattle.refusal.specs.Number.{Done}
use Rattle.table_rows.specs.Rows.{rows}
use Rattle.batch_commands.specs.Format.{MAX-ROWS}
use Rattle.field_montgomery.specs.declared.Form.{Form}
use Rattle.batch_writer.specs.Contents.{Contents}
use Rattle.batch_writer.specs.Write.{right_lengths, all_words_below, refused_height, write_tests, write_answer}
use Rattle.batch_writer.proofs.Lengths.{Right, right, all_right}
use Rattle.batch_writer.proofs.Answers.{all_done}
use Rattle.terms_batches.proofs.Conjunctions.{all_true, true_all}

pub record Writable (contents : Contents) (n : ℕ) : Type 0 where
  pub lengths : Right contents n
  pub some_rows : 1 ≤ rows contents.trace
  pub few_rows : rows contents.trace ≤ MAX-ROWS
  pub height : refused_height (rows contents.trace) contents.log2_height ≡ false
  pub trace : all_below contents.trace ≡ true
  pub op_stack : all_below contents.op_stack ≡ true
  pub ram : all_below contents.ram ≡ true
  pub jump_stack : all_below contents.jump_stack ≡ true
  pub sampled : all_below contents.sampled ≡ true
  pub digest : all_below contents.digest ≡ true
  pub input : all_below contents.input ≡ true
  pub output : all_below contents.output ≡ true

module _ (form : Form) (contents : Contents) (n : ℕ) where
  abbrev lists : List Bool
  lists =
      all_below contents.op_stack
      ∷ all_below contents.ram
      ∷ all_below contents.jump_stack
      ∷ all_below contents.sampled
      ∷ all_below contents.digest
      ∷ all_below contents.input
      ∷ all_below contents.output
      ∷ []

  pub writable : write_answer form contents n ≡ Done → Writable contents n
  unfolding write_answer
  writable e =
      let count = rows contents.trace in
      let none = (done_exactly (write_tests form contents n)).0 e in
      let r = and_parts (leb 1 count) (leb count MAX-ROWS) (not-false (leb 1 count && leb count MAX-ROWS) none.1.0) in
      let w = all_true (all_below contents.trace) lists (not-false (all_words_below contents) none.1.1.1.0) in
      record {
        lengths = right contents form n (not-false (right_lengths form contents n) none.0);
        some_rows = leb-true 1 count r.0;
        few_rows = leb-true count MAX-ROWS r.1;
        height = none.1.1.0;
        trace = w.0;
        op_stack = w.1.0;
        ram = w.1.1.0;
        jump_stack = w.1.1.1.0;
        sampled = w.1.1.1.1.0;
        digest = w.1.1.1.1.1.0;
        input = w.1.1.1.1.1.1.0;
        output = w.1.1.1.1.1.1.1.0;
      }

  pub done : Writable contents n → write_answer form contents n ≡ Done
  done w =
      let below = true_all (all_below contents.trace) lists w.trace (w.op_stack, (w.ram, (w.jump_stack, (w.sampled, (w.digest, (w.input, (w.output, tt))))))) in
      sym (all_done form contents n (sym (all_right contents form n w.lengths)) w.some_rows w.few_rows w.height below)
