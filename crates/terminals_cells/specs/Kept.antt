-- The rows of a table that are at hand: all, or those of the trace and one window of padding.
use Rattle.std.specs.Prelude.{◌≡◌, List, ◌++◌, ℕ, ◌+◌, ◌-◌, ◌*◌, ◌≤◌, ◌<◌}
use Rattle.refusal.specs.Tests.{MAX-LEN}
use Rattle.air.specs.MainColumn.{MAIN-WIDTH}
use Rattle.table_rows.specs.Rows.{rows}
use Rattle.batch_commands.specs.Format.{MAX-ROWS}
use Rattle.batch.specs.Lent.{zeros}

-- `kept` of the rows of a table of `height` rows
pub record Kept (trace-rows kept height : ℕ) : Type 0 where
  pub two : 2 ≤ kept
  pub few : kept ≤ MAX-ROWS + 2
  pub within : kept ≤ height
  pub one_window : kept ≤ trace-rows + 2
  pub short : height ≤ MAX-LEN
  pub window : kept < height → kept ≡ trace-rows + 2

-- the table of `height` rows that begins with the rows at hand and goes on with zeros
unfoldable pub longer : ℕ → List ℕ → List ℕ
unfolding zeros
longer height table = table ++ zeros ((height - rows table) * MAIN-WIDTH)
