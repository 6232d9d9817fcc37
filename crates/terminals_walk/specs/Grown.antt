-- A table that goes on with padding rows like its last.
use Rattle.std.specs.Prelude.{◌≡◌, true, List, ℕ, ◌-◌, ◌≤◌, ◌<◌, set}
use Rattle.refusal.specs.Long.{MAX-LEN}
use Rattle.air.specs.MainColumn.{CLOCK-JUMP-DIFFERENCE-LOOKUP-MULTIPLICITY}
use Rattle.table_rows.specs.Rows.{whole_rows, rows, row_at, rows_from}
use Rattle.table_pad.specs.Pad.{padding_row, padded_row}

-- its own rows, and padding rows below them up to n
unfoldable pub grown : ℕ → List ℕ → List ℕ
unfolding rows_from
grown n main = rows_from (padded_row main (rows main)) 0 n

-- the last two rows are padding, but that the first of them may have any multiplicity, as row 1 has where it is padding
pub record EndsInPadding (main : List ℕ) : Type 0 where
  pub three : 3 ≤ rows main
  pub last : row_at main (rows main - 1) ≡ padding_row (row_at main (rows main - 1)) (rows main - 1)
  pub multiplicity : ℕ
  pub before : row_at main (rows main - 2) ≡ set (padding_row (row_at main (rows main - 1)) (rows main - 2)) CLOCK-JUMP-DIFFERENCE-LOOKUP-MULTIPLICITY multiplicity

-- so that what one window of them brings, all that follow bring
pub record Growing (main : List ℕ) (height : ℕ) : Type 0 where
  pub whole : whole_rows main ≡ true
  pub some : 1 ≤ rows main
  pub within : rows main ≤ height
  pub short : height ≤ MAX-LEN
  pub window : rows main < height → EndsInPadding main
