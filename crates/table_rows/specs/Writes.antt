-- What the functions that write into the table leave.
use Rattle.std.specs.Prelude.{List, ◌++◌, ℕ, suc, ◌+◌, ◌*◌, take, drop, get_or, set}
use Rattle.algebra.specs.Modulus.{plus}
use Rattle.air.specs.MainColumn.{CLOCK-JUMP-DIFFERENCE-LOOKUP-MULTIPLICITY, MAIN-WIDTH}
use Rattle.table_rows.specs.Rows.{rows_from}

-- row c is replaced, in a table of `width` words a row
abbrev pub with_row : ℕ → List ℕ → ℕ → List ℕ → List ℕ
with_row width table c row = take (c * width) table ++ row ++ drop (suc c * width) table

-- n rows from row c on are replaced
unfoldable pub with_rows : ℕ → List ℕ → (ℕ → List ℕ) → ℕ → ℕ → List ℕ
unfolding rows_from
with_rows width table row c n = take (c * width) table ++ rows_from row c n ++ drop ((c + n) * width) table

-- row c's multiplicity grows by n, modulo p
abbrev pub raised : List ℕ → ℕ → ℕ → List ℕ
raised table c n =
    let at = c * MAIN-WIDTH + CLOCK-JUMP-DIFFERENCE-LOOKUP-MULTIPLICITY in
    set table at (plus (get_or table at 0) n)
