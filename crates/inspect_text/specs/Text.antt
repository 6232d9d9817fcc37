-- A line for each row that does not decode: the row's number, CI, NIA and the reason; or, where every row decodes, that they do.
use Rattle.std.specs.Prelude.{List, [], ◌∷◌, ◌++◌, ℕ, get_or, Result, Ok, Err}
use Rattle.air.specs.MainColumn.{CI, NIA}
use Rattle.isa.specs.declared.Instruction.{Instruction}
use Rattle.isa_decoding.specs.declared.Class.{Class}
use Rattle.isa_decoding.specs.declared.Class.TheVariants.{StackElement, NumberOfWords}
use Rattle.isa_decoding.specs.Decode.{decoded}
use Rattle.table_rows.specs.Rows.{rows, row_at, rows_from}
use Rattle.air_names.specs.Instruction.{name_of}
use Rattle.text.specs.Ascii.{ascii}
use Rattle.text.specs.Text.{SPACE, decimal, word}
use Rattle.isa_decoding.specs.declared.Undecodable.TheVariants.{Unknown, Outside}
use Rattle.isa_decoding.specs.declared.Undecodable.{Undecodable}

-- the words that a class allows
abbrev pub limits : Class → List ℕ
limits StackElement = ascii "0 to 15"
limits NumberOfWords = ascii "1 to 5"

unfoldable pub unknown_text : ℕ → List ℕ
unknown_text ci = ascii "opcode " ++ decimal ci ++ ascii " is none"

unfoldable pub outside_text : Class → Instruction → ℕ → List ℕ
outside_text class i nia = ascii "argument " ++ decimal nia ++ ascii " of " ++ name_of i ++ ascii " is not in " ++ limits class

unfoldable pub numbers_text : ℕ → ℕ → ℕ → List ℕ
numbers_text row ci nia = word row SPACE ++ word ci SPACE ++ word nia SPACE

-- a row's line; none where it decodes
abbrev pub line_of : Result Instruction Undecodable → ℕ → ℕ → ℕ → List ℕ
line_of (Ok i) row ci nia = []
line_of (Err Unknown) row ci nia = numbers_text row ci nia ++ unknown_text ci ++ ascii "\n"
line_of (Err (Outside class i)) row ci nia = numbers_text row ci nia ++ outside_text class i nia ++ ascii "\n"

unfoldable pub line : ℕ → ℕ → ℕ → List ℕ
line row ci nia = line_of (decoded ci nia) row ci nia

-- of a row's words and its number
abbrev pub row_text : List ℕ → ℕ → List ℕ
row_text words row = line row (get_or words CI 0) (get_or words NIA 0)

unfoldable pub lines : List ℕ → List ℕ
lines trace = rows_from (λ row. row_text (row_at trace row) row) 0 (rows trace)

-- where no row has a line, that all decode
abbrev pub or_all_decode : List ℕ → List ℕ
or_all_decode [] = ascii "all rows decode\n"
or_all_decode (c ∷ cs) = c ∷ cs

unfoldable pub trace_text : List ℕ → List ℕ
trace_text trace = or_all_decode (lines trace)
