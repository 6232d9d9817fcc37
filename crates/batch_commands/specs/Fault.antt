-- What is wrong with a command after the commands that were seen, and what stands at a place.
use Rattle.std.specs.Prelude.{Bool, cond, not, ◌&&◌, ◌||◌, List, [], ◌∷◌, ℕ, ◌-◌, ◌^◌, eqb, leb, ltb, length, take, get_or, Result, Ok, Err}
use Rattle.field_base.specs.Words.{all_below}
use Rattle.refusal.specs.declared.Refusal.TheVariants.{UnknownCommand, BatchCutOff, CommandOutOfPlace, CommandOutOfOrder, RowCount, HeightOutOfRange, WordNotBelowP}
use Rattle.refusal.specs.Tests.{Tests, ◌when◌, ◌unless◌, first}
use Rattle.batch_commands.specs.declared.Seen.{Seen}
use Rattle.batch_words.specs.Words.{number, words}
use Rattle.field_montgomery.specs.declared.Form.{Form}
use Rattle.field_montgomery.specs.declared.Form.TheVariants.{Plain, Montgomery}
use Rattle.batch_commands.specs.Format.{END, TRACE-ROWS, ROW, SAMPLED, DIGEST, MONTGOMERY-ROW, HEIGHT, MAX-ROWS, MAX-LOG-2-HEIGHT, known, width, words_in, limit, rank, key}
use Rattle.batch_commands.specs.Form.{row_command}
use Rattle.refusal.specs.declared.Refusal.{Refusal}

-- the form of the rows that came, and how many they are, where `came` says how often each command came, by its byte
abbrev pub form_in : List ℕ → Form
form_in came = cond (eqb (get_or came MONTGOMERY-ROW 0) 0) Plain Montgomery

abbrev pub rows_in : List ℕ → ℕ
rows_in came = get_or came (row_command (form_in came)) 0

-- Document 02, Three: "a mixture answers 9", at the first row in the other form
abbrev pub mixed : List ℕ → ℕ → Bool
mixed came code = cond (eqb code ROW) (not (eqb (get_or came MONTGOMERY-ROW 0) 0)) (eqb code MONTGOMERY-ROW && not (eqb (get_or came ROW 0) 0))

-- rows, 06 or 07
abbrev pub missing : ℕ → List ℕ → Bool
missing rows came = ltb (rows_in came) rows || eqb (get_or came SAMPLED 0) 0 || eqb (get_or came DIGEST 0) 0

-- "01 stands first"; "also past a count"; at 00 "9 if rows or 06 or 07 are missing or bytes follow", of which `left` are left
abbrev pub out_of_place : ℕ → List ℕ → ℕ → ℕ → Bool
out_of_place rows came code left =
    (eqb (get_or came TRACE-ROWS 0) 0 && not (eqb code TRACE-ROWS))
    || leb (limit rows code) (get_or came code 0)
    || mixed came code
    || (eqb code END && (missing rows came || not (eqb left 0)))

-- 01 with a value out of its range
abbrev pub wrong_row_count : ℕ → List ℕ → Bool
wrong_row_count code operand = eqb code TRACE-ROWS && not (leb 1 (number operand) && leb (number operand) MAX-ROWS)

-- Document 02, Five: "12 if k is outside its range or 2^k is below the trace rows"
abbrev pub wrong_height : ℕ → ℕ → Bool
wrong_height rows k = not (leb 1 k && leb k MAX-LOG-2-HEIGHT) || ltb (2 ^ k) rows

-- 0B with such a k
abbrev pub height_out_of_range : ℕ → ℕ → List ℕ → Bool
height_out_of_range rows code operand = eqb code HEIGHT && wrong_height rows (number operand)

-- Document 02, One: "a command within its count that follows one belonging behind it, or a difference below the one before it in its list".
-- `seen` has the highest rank so far; a command of that rank follows the one before it in its list, whose key is the last seen.
abbrev pub out_of_order : Seen → ℕ → List ℕ → Bool
out_of_order seen code operand = ltb (rank code) seen.rank || (eqb (rank code) seen.rank && ltb (key code operand) seen.key)

-- "9 (also past a count), 3, 2", 10 "after 9 and before 3", and 12 "in the place of 3", where `bytes` begins with the operand
abbrev pub judge_tests : Seen → ℕ → List ℕ → Tests
judge_tests seen code bytes =
    (CommandOutOfPlace when out_of_place seen.rows seen.came code (length bytes - width code))
    ∷ (CommandOutOfOrder when out_of_order seen code bytes)
    ∷ (RowCount when wrong_row_count code (take (width code) bytes))
    ∷ (HeightOutOfRange when height_out_of_range seen.rows code (take (width code) bytes))
    ∷ (WordNotBelowP unless all_below (words_in code bytes))
    ∷ []

unfoldable pub judged : Seen → ℕ → List ℕ → Result (Unit {0}) Refusal
unfolding number words all_below key
judged seen code bytes = first (judge_tests seen code bytes)

-- "left to right, per command: 7, 8, 9 (also past a count), 3, 2"
abbrev pub fault_tests : Seen → ℕ → List ℕ → Tests
fault_tests seen code bytes = (UnknownCommand unless known code) ∷ (BatchCutOff when ltb (length bytes) (width code)) ∷ judge_tests seen code bytes

unfoldable pub fault : Seen → ℕ → List ℕ → Result (Unit {0}) Refusal
unfolding number words all_below key
fault seen code bytes = first (fault_tests seen code bytes)

-- the command that the bytes from a place on begin with, with its whole operand
abbrev pub head_of : List ℕ → Result ℕ Refusal
head_of [] = Err BatchCutOff
head_of (code ∷ bytes) = cond (not (known code)) (Err UnknownCommand) (cond (ltb (length bytes) (width code)) (Err BatchCutOff) (Ok code))
