-- A batch read from left to right; the first command with a fault decides.
use Rattle.std.specs.Prelude.{cond, List, [], ◌∷◌, ◌++◌, ℕ, zero, suc, eqb, length, take, drop, Result, Ok, Err}
use Rattle.refusal.specs.declared.Refusal.{Refusal}
use Rattle.refusal.specs.declared.Refusal.TheVariants.{BatchCutOff}
use Rattle.batch_commands.specs.Format.{END, width, Command}
use Rattle.batch_commands.specs.Fault.{fault}
use Rattle.batch_reader.specs.Commands.{count, height_of, highest_rank, last_key, seen_in}

-- the commands before 00, or the first fault
pub data Reading : Type 0 where
  read : List Command → Reading
  refused : Refusal → Reading

abbrev pub unless : Result (Unit {0}) Refusal → Reading → Reading
unless (Err refusal) next = refused refusal
unless (Ok u) next = next

-- what follows the commands `passed`; a command has at least one byte, so n at least the number of bytes is enough; "At the end 8 without 00"
unfoldable pub read_from : ℕ → List Command → List ℕ → Reading
unfolding fault count height_of highest_rank last_key
read_from zero passed bytes = refused BatchCutOff
read_from (suc n) passed [] = refused BatchCutOff
read_from (suc n) passed (code ∷ bytes) =
    unless (fault (seen_in passed) code bytes)
    (cond (eqb code END) (read passed)
    (read_from n (passed ++ (record { code = code; operand = take (width code) bytes } ∷ [])) (drop (width code) bytes)))

unfoldable pub reading : List ℕ → Reading
unfolding read_from
reading batch = read_from (length batch) [] batch

abbrev pub commands_of : Reading → List Command
commands_of (read commands) = commands
commands_of (refused refusal) = []
