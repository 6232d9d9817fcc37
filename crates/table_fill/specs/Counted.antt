-- What counting a list of differences leaves in the table.
use Rattle.std.specs.Prelude.{List, [], ◌∷◌, ℕ}
use Rattle.table_rows.specs.Writes.{raised}

-- row d's multiplicity grows by one for each difference d
unfoldable pub counted : List ℕ → List ℕ → List ℕ
counted [] table = table
counted (d ∷ ds) table = counted ds (raised table d 1)
