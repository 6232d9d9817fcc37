-- Open: the answer, and what each lent slice holds then.
use Rattle.std.specs.Prelude.{Bool, not, ◌&&◌, ◌||◌, List, [], ◌∷◌, ℕ, ◌*◌, eqb, ltb, length, Result, Ok, Err}
use Rattle.refusal.specs.Tests.{◌when◌, first_or}
use Rattle.refusal.specs.declared.Refusal.TheVariants.{SliceLength}
use Rattle.air.specs.MainColumn.{MAIN-WIDTH}
use Rattle.air.specs.ChallengeId.{SAMPLED-WORDS, DIGEST-WORDS}
use Rattle.batch_commands.specs.Format.{MAX-ROWS, MAX-DIFFERENCES, MAX-WORDS}
use Rattle.batch_reader.specs.Reading.{reading}
use Rattle.batch_reader.specs.Answers.{answer_of, brought, written}
use Rattle.refusal.specs.declared.Refusal.{Refusal}
use Rattle.batch_reader.specs.declared.Counts.{Counts}

abbrev pub open_counts : Result Counts Refusal → List ℕ
open_counts (Ok counts) = counts.rows ∷ counts.op_stack ∷ counts.ram ∷ counts.jump_stack ∷ counts.input ∷ counts.output ∷ counts.log2_height ∷ []
open_counts (Err refusal) = []

abbrev pub MAX-BYTES : ℕ
MAX-BYTES = 16384

abbrev pub TRACE-WORDS : ℕ
TRACE-WORDS = MAX-ROWS * MAIN-WIDTH

abbrev pub right_lengths : ℕ → ℕ → ℕ → ℕ → ℕ → ℕ → ℕ → ℕ → Bool
right_lengths trace op_stack ram jump_stack sampled digest input output =
    eqb trace TRACE-WORDS
    && eqb op_stack MAX-DIFFERENCES
    && eqb ram MAX-DIFFERENCES
    && eqb jump_stack MAX-DIFFERENCES
    && eqb sampled SAMPLED-WORDS
    && eqb digest DIGEST-WORDS
    && eqb input MAX-WORDS
    && eqb output MAX-WORDS

-- "1 over 16,384 bytes or at another slice length. Then left to right"
unfoldable pub open_answer : List ℕ → ℕ → ℕ → ℕ → ℕ → ℕ → ℕ → ℕ → ℕ → Result Counts Refusal
unfolding reading
open_answer batch trace op_stack ram jump_stack sampled digest input output =
    first_or Err
    ((SliceLength when ltb MAX-BYTES (length batch) || not (right_lengths trace op_stack ram jump_stack sampled digest input output)) ∷ [])
    (answer_of (reading batch))

-- what a slice holds after an answer
unfoldable pub open_slice : Result Counts Refusal → ℕ → List ℕ → List ℕ → List ℕ
unfolding brought
open_slice (Ok counts) code batch slice = written (brought code batch) slice
open_slice (Err refusal) code batch slice = slice
