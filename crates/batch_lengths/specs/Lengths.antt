-- The lengths that the writer takes, as numbers.
use Rattle.std.specs.Prelude.{Bool, cond, ◌&&◌, ℕ, ◌+◌, ◌*◌, ◌/◌, ◌%◌, eqb, leb}
use Rattle.air.specs.ChallengeId.{SAMPLED-WORDS, DIGEST-WORDS}
use Rattle.air.specs.MainColumn.{MAIN-WIDTH}
use Rattle.batch_commands.specs.Format.{MAX-DIFFERENCES, MAX-WORDS}

-- of 0B, which is there unless k is 0
abbrev pub height_length : ℕ → ℕ
height_length k = cond (eqb k 0) 0 2

-- of a batch with so many rows, and so many differences, input and output words: 01, 07, 06 and 00 take 5 + 41 + 1,417 + 1 bytes
abbrev pub batch_length : (k rows words : ℕ) → ℕ
batch_length k rows words = 1464 + height_length k + 313 * rows + 9 * words

-- whole rows, lists within their counts, and the batch of the batch's length: `batch_writer` Write `right_lengths`, by the lengths alone
abbrev pub right_numbers : (trace op_stack ram jump_stack sampled digest input output k batch : ℕ) → Bool
right_numbers trace op_stack ram jump_stack sampled digest input output k batch =
    eqb (trace % MAIN-WIDTH) 0
    && leb op_stack MAX-DIFFERENCES
    && leb ram MAX-DIFFERENCES
    && leb jump_stack MAX-DIFFERENCES
    && eqb sampled SAMPLED-WORDS
    && eqb digest DIGEST-WORDS
    && leb input MAX-WORDS
    && leb output MAX-WORDS
    && eqb batch (batch_length k (trace / MAIN-WIDTH) (op_stack + ram + jump_stack + input + output))
