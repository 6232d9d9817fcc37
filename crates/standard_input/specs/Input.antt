-- What reading the input answers.
use Rattle.std.specs.Prelude.{ℕ, ◌≤◌, Result, Ok, Err}

-- the bytes that were read lie within a buffer of `most`
abbrev pub Within : {E : Type 0} → Result ℕ E → ℕ → Type 0
Within (Ok n) most = n ≤ most
Within (Err e) most = Unit {0}
