-- A table is its rows of 39 words, one after the other.
use Rattle.std.specs.Prelude.{Bool, cond, List, [], ◌++◌, ℕ, zero, suc, ◌+◌, ◌*◌, ◌/◌, ◌%◌, eqb, length, take, drop}
use Rattle.air.specs.MainColumn.{MAIN-WIDTH}

abbrev pub whole_rows : List ℕ → Bool
whole_rows table = eqb (length table % MAIN-WIDTH) 0

abbrev pub rows : List ℕ → ℕ
rows table = length table / MAIN-WIDTH

abbrev pub row_at : List ℕ → ℕ → List ℕ
row_at table c = take MAIN-WIDTH (drop (c * MAIN-WIDTH) table)

-- the row before row r, where `before` stands before row 0
abbrev pub row_before : (before : List ℕ) → (ℕ → List ℕ) → ℕ → List ℕ
row_before before row zero = before
row_before before row (suc r) = row r

-- n rows from row c on, row by row
unfoldable pub rows_from : (ℕ → List ℕ) → ℕ → ℕ → List ℕ
rows_from row c zero = []
rows_from row c (suc n) = row c ++ rows_from row (suc c) n

-- the chunks that rows start: rows divided by the chunk length, rounded up
abbrev pub started_chunks : ℕ → ℕ → ℕ
started_chunks rows chunk = rows / chunk + cond (eqb (rows % chunk) 0) 0 1
