-- Bytes at a place of a batch.
use Rattle.std.specs.Prelude.{List, ◌++◌, ℕ, ◌+◌, length, take, drop}

-- the batch with these bytes from there on, in the place of as many
abbrev pub pasted : List ℕ → ℕ → List ℕ → List ℕ
pasted batch at bytes = take at batch ++ bytes ++ drop (at + length bytes) batch
