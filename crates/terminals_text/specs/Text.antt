-- The text: a line for each column, or `refused`, a space and the number.
use Rattle.std.specs.Prelude.{List, ◌++◌, ℕ, ◌+◌, ◌*◌, get_or, Result, Ok, Err}
use Rattle.table_rows.specs.Rows.{rows_from}
use Rattle.text.specs.Text.{SPACE, NEWLINE, word, refusal_text}
use Rattle.refusal.specs.declared.Refusal.{Refusal}

-- "column then coefficients"
abbrev pub line : List ℕ → ℕ → List ℕ
line cells column =
    word column SPACE
    ++ word (get_or cells (column * 3) 0) SPACE
    ++ word (get_or cells (column * 3 + 1) 0) SPACE
    ++ word (get_or cells (column * 3 + 2) 0) NEWLINE

unfoldable pub lines : List ℕ → List ℕ
lines cells = rows_from (line cells) 0 11

-- "one line instead, `refused`, a space and the number"
abbrev pub text_of : Result (Unit {0}) Refusal → List ℕ → List ℕ
text_of (Ok u) cells = lines cells
text_of (Err refusal) cells = refusal_text refusal
