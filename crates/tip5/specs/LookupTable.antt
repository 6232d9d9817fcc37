-- tip5's table of 256 bytes.
use Rattle.std.specs.Prelude.{List, [], ◌∷◌, ℕ, zero, suc, ◌+◌, ◌-◌, ◌^◌, ◌%◌}

-- entry i
abbrev pub lookup_byte : ℕ → ℕ
lookup_byte i = ((i + 1) ^ 3 - 1) % 257

-- n entries from i on
abbrev pub lookup_bytes : ℕ → ℕ → List ℕ
lookup_bytes zero i = []
lookup_bytes (suc n) i = lookup_byte i ∷ lookup_bytes n (suc i)

unfoldable pub lookup_table : List ℕ
lookup_table = lookup_bytes 256 0
