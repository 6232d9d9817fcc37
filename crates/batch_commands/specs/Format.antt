-- Document 01's table of commands. "Commands of one byte (hexadecimal), operands of fixed width, little-endian".
use Rattle.std.specs.Prelude.{Bool, false, cond, ◌||◌, ℕ, zero, suc, eqb, length, take, drop}
use mathlib.Core.List.{List, [], ◌∷◌, ◌++◌, foldr}
use Rattle.batch_words.specs.Words.{number, words}

-- "01 trace rows, 4 bytes, 1–32; 02 a row, 312 bytes; 03, 04, 05 a difference for op stack, RAM, jump stack, 8; 06 the sampled challenges, 1,416;
-- 07 program digest, 40; 08 input word, 8; 09 output word, 8; 00 end." Document 02, Three: "Command 0A carries a 312-byte row in that form, in the place of 02."
-- Five: "Command 0B, one byte k, at most once, directly after 01, sets 2^k rows".
abbrev pub END : ℕ
END = 0

abbrev pub TRACE-ROWS : ℕ
TRACE-ROWS = 1

abbrev pub ROW : ℕ
ROW = 2

abbrev pub OP-STACK : ℕ
OP-STACK = 3

abbrev pub RAM : ℕ
RAM = 4

abbrev pub JUMP-STACK : ℕ
JUMP-STACK = 5

abbrev pub SAMPLED : ℕ
SAMPLED = 6

abbrev pub DIGEST : ℕ
DIGEST = 7

abbrev pub INPUT : ℕ
INPUT = 8

abbrev pub OUTPUT : ℕ
OUTPUT = 9

abbrev pub MONTGOMERY-ROW : ℕ
MONTGOMERY-ROW = 10

abbrev pub HEIGHT : ℕ
HEIGHT = 11

-- "1–32"; "At most 128 differences a list, 64 input and 64 output words."
abbrev pub MAX-ROWS : ℕ
MAX-ROWS = 32

abbrev pub MAX-DIFFERENCES : ℕ
MAX-DIFFERENCES = 128

abbrev pub MAX-WORDS : ℕ
MAX-WORDS = 64

-- Document 02, Five: "k from 1 to 22"
abbrev pub MAX-LOG-2-HEIGHT : ℕ
MAX-LOG-2-HEIGHT = 22

-- how often a command may stand: so many times, or once for each row that 01 announced
pub data Often : Type 0 where
  times : ℕ → Often
  each_row : Often

abbrev pub in_all : ℕ → Often → ℕ
in_all rows (times n) = n
in_all rows each_row = rows

-- what is fixed of a command: the width of its operand and of its key, in bytes, and where in the operand its words begin and how many they are
pub record Line : Type 0 where
  pub byte : ℕ
  pub width : ℕ
  pub words_at : ℕ
  pub words : ℕ
  pub often : Often
  pub key : ℕ

-- Document 02, One: "a batch runs 01, 07, all 08, all 09, 06, all rows, then all 03, all 04, all 05, each difference list not descending, then 00"; Five: 0B "directly after 01".
-- A line for each command, in that order; 02 and 0A have one place. A command's key is the number at its operand's start, not below that of the command before it in its list.
abbrev pub table : List (List Line)
table =
    (record { byte = TRACE-ROWS; width = 4; words_at = 0; words = 0; often = times 1; key = 0 } ∷ [])
    ∷ (record { byte = HEIGHT; width = 1; words_at = 0; words = 0; often = times 1; key = 0 } ∷ [])
    ∷ (record { byte = DIGEST; width = 40; words_at = 0; words = 5; often = times 1; key = 0 } ∷ [])
    ∷ (record { byte = INPUT; width = 8; words_at = 0; words = 1; often = times MAX-WORDS; key = 0 } ∷ [])
    ∷ (record { byte = OUTPUT; width = 8; words_at = 0; words = 1; often = times MAX-WORDS; key = 0 } ∷ [])
    ∷ (record { byte = SAMPLED; width = 1416; words_at = 0; words = 177; often = times 1; key = 0 } ∷ [])
    ∷ (record { byte = ROW; width = 312; words_at = 0; words = 39; often = each_row; key = 0 }
    ∷ record { byte = MONTGOMERY-ROW; width = 312; words_at = 0; words = 39; often = each_row; key = 0 } ∷ [])
    ∷ (record { byte = OP-STACK; width = 8; words_at = 0; words = 1; often = times MAX-DIFFERENCES; key = 8 } ∷ [])
    ∷ (record { byte = RAM; width = 8; words_at = 0; words = 1; often = times MAX-DIFFERENCES; key = 8 } ∷ [])
    ∷ (record { byte = JUMP-STACK; width = 8; words_at = 0; words = 1; often = times MAX-DIFFERENCES; key = 8 } ∷ [])
    ∷ (record { byte = END; width = 0; words_at = 0; words = 0; often = times 1; key = 0 } ∷ [])
    ∷ []

abbrev pub lines : List Line
lines = foldr ◌++◌ [] table

abbrev pub COMMANDS : ℕ
COMMANDS = length lines

-- n numbers from a on
abbrev pub from : ℕ → ℕ → List ℕ
from a zero = []
from a (suc n) = a ∷ from (suc a) n

-- a byte that has a line
abbrev pub is_in : ℕ → List Line → Bool
is_in code [] = false
is_in code (line ∷ others) = eqb code line.byte || is_in code others

abbrev pub known : ℕ → Bool
known code = is_in code lines

-- what its line says
abbrev pub said : (Line → ℕ) → ℕ → List Line → ℕ
said column code [] = 0
said column code (line ∷ others) = cond (eqb code line.byte) (column line) (said column code others)

abbrev pub width : ℕ → ℕ
width code = said (λ line. line.width) code lines

abbrev pub words_at : ℕ → ℕ
words_at code = said (λ line. line.words_at) code lines

abbrev pub word_count : ℕ → ℕ
word_count code = said (λ line. line.words) code lines

abbrev pub limit : ℕ → ℕ → ℕ
limit rows code = said (λ line. in_all rows line.often) code lines

abbrev pub key_width : ℕ → ℕ
key_width code = said (λ line. line.key) code lines

-- and its place in the order
abbrev pub place_in : ℕ → List (List Line) → ℕ
place_in code [] = zero
place_in code (place ∷ places) = cond (is_in code place) zero (suc (place_in code places))

abbrev pub rank : ℕ → ℕ
rank code = place_in code table

-- the words of an operand; 01 and 0B have none
abbrev pub words_in : ℕ → List ℕ → List ℕ
words_in code operand = words (word_count code) (drop (words_at code) operand)

-- those of a command of the wanted kind
abbrev pub words_for : ℕ → ℕ → List ℕ → List ℕ
words_for wanted code operand = cond (eqb code wanted) (words_in code operand) []

unfoldable pub key : ℕ → List ℕ → ℕ
unfolding number
key code operand = number (take (key_width code) operand)

pub record Command : Type 0 where
  pub code : ℕ
  pub operand : List ℕ

-- commands as bytes
unfoldable pub laid_out : List Command → List ℕ
laid_out [] = []
laid_out (command ∷ commands) = command.code ∷ command.operand ++ laid_out commands
