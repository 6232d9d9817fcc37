-- Open at the ABI: `counts` is to have seven words, else 1 and nothing is opened.
use Rattle.std.specs.Prelude.{cond, List, ℕ, eqb, length, Result, Ok, Err}
use Rattle.refusal.specs.declared.Refusal.TheVariants.{SliceLength}
use Rattle.batch_commands.specs.Format.{ROW, OP-STACK, RAM, JUMP-STACK, SAMPLED, DIGEST, INPUT, OUTPUT}
use Rattle.tealbobbin_answers.specs.Into.{written}
use Rattle.batch.specs.Open.{open_answer, open_counts, open_slice}
use Rattle.refusal.specs.declared.Refusal.{Refusal}
use Rattle.batch_reader.specs.declared.Counts.{Counts}

-- what the nine lent slices hold
pub record Slices : Type 0 where
  pub trace : List ℕ
  pub op_stack : List ℕ
  pub ram : List ℕ
  pub jump_stack : List ℕ
  pub sampled : List ℕ
  pub digest : List ℕ
  pub input : List ℕ
  pub output : List ℕ
  pub counts : List ℕ

abbrev pub slices : (trace op_stack ram jump_stack sampled digest input output counts : List ℕ) → Slices
slices trace op_stack ram jump_stack sampled digest input output counts =
    record {
      trace = trace;
      op_stack = op_stack;
      ram = ram;
      jump_stack = jump_stack;
      sampled = sampled;
      digest = digest;
      input = input;
      output = output;
      counts = counts;
    }

unfoldable pub open_into : List ℕ → Slices → Result Counts Refusal
open_into batch lent =
    cond (eqb (length lent.counts) 7)
    (open_answer batch (length lent.trace) (length lent.op_stack) (length lent.ram) (length lent.jump_stack) (length lent.sampled)
    (length lent.digest) (length lent.input) (length lent.output))
    (Err SliceLength)

abbrev pub count_words : Counts → List ℕ
count_words counts = open_counts (Ok counts)

abbrev pub counts_into : Result Counts Refusal → List ℕ → List ℕ
counts_into answer held = written count_words held answer

-- what the slices hold after an answer
abbrev pub slices_by : Result Counts Refusal → List ℕ → Slices → Slices
slices_by answer batch lent =
    record {
      trace = open_slice answer ROW batch lent.trace;
      op_stack = open_slice answer OP-STACK batch lent.op_stack;
      ram = open_slice answer RAM batch lent.ram;
      jump_stack = open_slice answer JUMP-STACK batch lent.jump_stack;
      sampled = open_slice answer SAMPLED batch lent.sampled;
      digest = open_slice answer DIGEST batch lent.digest;
      input = open_slice answer INPUT batch lent.input;
      output = open_slice answer OUTPUT batch lent.output;
      counts = counts_into answer lent.counts;
    }

abbrev pub slices_after : List ℕ → Slices → Slices
slices_after batch lent = slices_by (open_into batch lent) batch lent
