-- One command, as the code has it: what it comes to after the commands that were seen, and what is then remembered.
use Rattle.std.specs.Prelude.{cond, List, [], ◌∷◌, ℕ, ◌+◌, eqb, ltb, take, get_or, set, replicate, Option, Some, None, option_map, Result, Ok, Err}
use Rattle.refusal.specs.declared.Refusal.TheVariants.{BatchCutOff}
use Rattle.batch_words.specs.Words.{number}
use Rattle.batch_commands.specs.Format.{END, TRACE-ROWS, HEIGHT, COMMANDS, width, rank, key, Command}
use Rattle.batch_commands.specs.declared.Seen.{Seen}
use Rattle.batch_commands.specs.Fault.{fault}
use Rattle.batch_commands.specs.declared.command.Command.{Command as Whole}
use Rattle.batch_commands.specs.Code.{byte_of}
use Rattle.refusal.specs.declared.Refusal.{Refusal}

abbrev pub seen_nothing : Seen
seen_nothing = record { rows = 0; log2_height = 0; came = replicate COMMANDS 0; rank = 0; key = 0 }

abbrev pub seen_past : Seen → ℕ → List ℕ → Seen
seen_past seen code bytes =
    record {
      rows = cond (eqb code TRACE-ROWS) (number (take (width code) bytes)) seen.rows;
      log2_height = cond (eqb code HEIGHT) (number (take (width code) bytes)) seen.log2_height;
      came = set seen.came code (get_or seen.came code 0 + 1);
      rank = rank code;
      key = key code bytes;
    }

-- a command, by its byte, or None behind the last one
abbrev pub step_by : Result (Unit {0}) Refusal → ℕ → Result (Option ℕ) Refusal
step_by (Err refusal) code = Err refusal
step_by (Ok u) code = Ok (cond (eqb code END) None (Some code))

abbrev pub step_of : Seen → List ℕ → Result (Option ℕ) Refusal
step_of seen [] = Err BatchCutOff
step_of seen (code ∷ bytes) = step_by (fault seen code bytes) code

-- a step of the code by the command's byte
abbrev pub step_in : Result (Option Whole) Refusal → Result (Option ℕ) Refusal
step_in (Ok next) = Ok (option_map (λ command. byte_of command.code) next)
step_in (Err refusal) = Err refusal

-- the bytes of the commands of a rank below r
unfoldable pub bytes_below : ℕ → List Command → ℕ
bytes_below r [] = 0
bytes_below r (command ∷ commands) = cond (ltb (rank command.code) r) (1 + width command.code) 0 + bytes_below r commands
