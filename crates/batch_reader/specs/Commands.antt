-- What a list of commands holds.
use Rattle.std.specs.Prelude.{cond, List, [], ◌∷◌, ◌++◌, map, ℕ, ◌+◌, max, eqb}
use Rattle.batch_words.specs.Words.{number, words}
use Rattle.batch_commands.specs.declared.Seen.{Seen}
use Rattle.field_montgomery.specs.declared.Form.{Form}
use Rattle.batch_commands.specs.Format.{ROW, HEIGHT, COMMANDS, from, rank, key, words_for, Command}
use Rattle.field_montgomery.specs.Form.{plain}
use Rattle.batch_commands.specs.Form.{row_command}
use Rattle.batch_commands.specs.Fault.{form_in}

-- how often a command stands there
unfoldable pub count : ℕ → List Command → ℕ
count code [] = 0
count code (command ∷ commands) = cond (eqb command.code code) 1 0 + count code commands

-- how often each, by its byte
abbrev pub counts : List Command → List ℕ
counts commands = map (λ code. count code commands) (from 0 COMMANDS)

-- the words that the commands of one kind bring, in their order
unfoldable pub contents : ℕ → List Command → List ℕ
unfolding words
contents wanted [] = []
contents wanted (command ∷ commands) = words_for wanted command.code command.operand ++ contents wanted commands

-- the form of the rows
abbrev pub form_of : List Command → Form
form_of commands = form_in (counts commands)

-- what the commands bring for one of the slices, known by its command; for the trace, 02, the rows' words: "Opening yields plain words."
abbrev pub slice_from : ℕ → List Command → List ℕ
slice_from code commands = cond (eqb code ROW) (plain (form_of commands) (contents (row_command (form_of commands)) commands)) (contents code commands)

-- the rows that 01 announces; it stands first
abbrev pub announced : List Command → ℕ
announced [] = 0
announced (command ∷ commands) = number command.operand

-- the k of 0B, "0 without it"
unfoldable pub height_of : List Command → ℕ
unfolding number
height_of [] = 0
height_of (command ∷ commands) = cond (eqb command.code HEIGHT) (number command.operand) (height_of commands)

-- how far behind they belong
unfoldable pub highest_rank : List Command → ℕ
highest_rank [] = 0
highest_rank (command ∷ commands) = max (rank command.code) (highest_rank commands)

-- the key of the last command, or `before`
unfoldable pub last_key : ℕ → List Command → ℕ
unfolding key
last_key before [] = before
last_key before (command ∷ commands) = last_key (key command.code command.operand) commands

-- what counts for the command that follows
abbrev pub seen_in : List Command → Seen
seen_in commands = record { rows = announced commands; log2_height = height_of commands; came = counts commands; rank = highest_rank commands; key = last_key 0 commands }
