-- The text of a batch: the refusal that opening it answers, or that of its trace.
use Rattle.std.specs.Prelude.{List, ℕ, ◌*◌, take, Result, Ok, Err}
use Rattle.air.specs.MainColumn.{MAIN-WIDTH}
use Rattle.air.specs.ChallengeId.{SAMPLED-WORDS, DIGEST-WORDS}
use Rattle.batch_commands.specs.Format.{ROW, MAX-DIFFERENCES, MAX-WORDS}
use Rattle.batch.specs.Open.{TRACE-WORDS, open_answer, open_slice}
use Rattle.batch.specs.Lent.{zeros}
use Rattle.text.specs.Text.{refusal_text}
use Rattle.inspect_text.specs.Text.{trace_text}
use Rattle.refusal.specs.declared.Refusal.{Refusal}
use Rattle.batch_reader.specs.declared.Counts.{Counts}

abbrev pub text_after : Result Counts Refusal → List ℕ → List ℕ
text_after (Err refusal) batch = refusal_text refusal
text_after (Ok counts) batch = trace_text (take (counts.rows * MAIN-WIDTH) (open_slice (Ok counts) ROW batch (zeros TRACE-WORDS)))

unfoldable pub inspect_text : List ℕ → List ℕ
inspect_text batch = text_after (open_answer batch TRACE-WORDS MAX-DIFFERENCES MAX-DIFFERENCES MAX-DIFFERENCES SAMPLED-WORDS DIGEST-WORDS MAX-WORDS MAX-WORDS) batch
